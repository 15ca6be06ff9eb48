-- What is read at the start of a text: keys, digits, rows of digits, and lines of a key and a decimal number. Assumes nothing.
use Rattle.std.specs.Prelude.{Bool, true, false, cond, ◌&&◌, List, [], ◌∷◌, ℕ, zero, suc, ◌+◌, ◌*◌, ◌-◌, ltb, leb, eqb, length, drop, get_or, Option, Some, None}

-- ---- an answer taken apart: f of the value and of how many bytes it takes, or else b
abbrev pub onRead {ℓ} : {T : Type 0} {A : Type ℓ} → Option (T × ℕ) → A → (T → ℕ → A) → A
onRead (Some (v, n)) b f = f v n
onRead None b f = b

-- of a digit: f of what it stands for, or else b
abbrev pub onDigit {ℓ} : {A : Type ℓ} → Option ℕ → A → (ℕ → A) → A
onDigit (Some d) b f = f d
onDigit None b f = b

-- ---- keys and numbers
-- whether a text begins with a key
unfoldable pub begins : List ℕ → List ℕ → Bool
begins s [] = true
begins [] (k ∷ ks) = false
begins (b ∷ s) (k ∷ ks) = eqb b k && begins s ks

-- what a byte stands for: 48 to 57 are the figures, 97 to 102 the letters a to f
unfoldable pub digit_at : ℕ → Option ℕ
digit_at b =
    cond (ltb b 48) None
    (cond (leb b 57) (Some (b - 48)) (cond (ltb b 97) None (cond (leb b 102) (Some (b - 87)) None)))

-- the first k bytes, all of them digits
unfoldable pub hex_at : ℕ → List ℕ → Option ℕ
hex_at zero s = Some 0
hex_at (suc k) s = onDigit (hex_at k s) None (λ v. onDigit (digit_at (get_or s k 0)) None (λ d. Some (v * 16 + d)))

-- the same, where they are at most 16: any more are taken for none
abbrev pub row_at : ℕ → List ℕ → Option ℕ
row_at k s = cond (ltb 16 k) None (hex_at k s)

-- the digits up to the byte `end`, where j digits have been read, and make v. No digit follows a leading zero
unfoldable pub decimal_at : ℕ → ℕ → ℕ → ℕ → List ℕ → Option (ℕ × ℕ)
decimal_at end most v j [] = None
decimal_at end most v j (b ∷ s) =
    cond (eqb b end) (cond (eqb j 0) None (Some (v, j + 1)))
    (cond (ltb b 48) None
    (cond (ltb 57 b) None
    (cond (ltb most (v * 10 + (b - 48))) None
    (cond (ltb 0 j && eqb v 0) None (decimal_at end most (v * 10 + (b - 48)) (j + 1) s)))))

-- a key and a decimal number: its value and how many bytes both take, the end included
abbrev pub keyed_at : ℕ → List ℕ → ℕ → ℕ → List ℕ → Option (ℕ × ℕ)
keyed_at end key least most s =
    cond (begins s key)
    (onRead (decimal_at end most 0 0 (drop (length key) s)) None (λ v n. cond (ltb v least) None (Some (v, length key + n)))) None

-- ---- a line of a key and a decimal number: one that ends in LF
unfoldable pub decimal_line_at : List ℕ → ℕ → ℕ → List ℕ → Option (ℕ × ℕ)
decimal_line_at key least most s = keyed_at 10 key least most s
