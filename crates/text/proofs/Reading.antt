-- What the readers' definitions hand on from one byte of a text to the next. Assumes nothing.
use mathlib.Core.Path.{◌≡◌, refl, ap, ap₂, sym, ◌∙◌}
use mathlib.Core.Bool.{Bool, true, false, cond, ◌&&◌}
use mathlib.Core.List.{List, [], ◌∷◌, ◌++◌}
use Prim.Native.Nat.{ℕ, suc, ◌+◌, ◌*◌, ◌-◌, ◌^◌, ◌<◌, ◌≤◌}
use native.Mathlib.Nat.{pow-le-pow_right, lt_of_lt_of_le}
use native.Mathlib.Numerals.{add-one}
use native.Mathlib.Omega.{arith}
use borrow.Author.Tests.{lt-ltb, le-ltb, ne_eqb, eq-eqb, eqb-true, eqb-false}
use lib.Dec.{ltb, eqb, lit<}
use lib.Pointwise.{pointwise}
use lib.Seq.{take_all, drop-drop}
use lib.IntN.{ℤ}
use lib.ListN.{length, get_or, take, drop, length-append, drop_of_length-le}
use Rattle.laws.specs.Laws.Lists.{drop-next}
use Rattle.text.specs.Text.{decimal}
use Rattle.text.specs.Lines.{onRead, begins, decimal_at, digit_at, hex_at}
use Rattle.text.specs.Rows.{signed_at, end_before, numbers_from}
use Rattle.text.specs.Laws.Lines.{decimal_only, hex_only, hex-other}
use Rattle.std.specs.Prelude.{Option, Some, None}

eqb-swap : (m n : ℕ) → eqb m n ≡ eqb n m
eqb-swap m n = go (eqb m n) refl
  where
    go : (p : Bool) → eqb m n ≡ p → p ≡ eqb n m
    go true e = sym (eq-eqb n m (sym (eqb-true m n e)))
    go false e = sym (ne_eqb n m (λ f. eqb-false m n e (sym f)))

-- a text begins with a key where as many of its bytes are the key's, one by one
pub begins_is : (s key : List ℕ) → pointwise eqb key (take (length key) s) ≡ begins s key
unfolding begins
begins_is [] [] = refl
begins_is (b ∷ s) [] = refl
begins_is [] (k ∷ key) = refl
begins_is (b ∷ s) (k ∷ key) = ap₂ (λ (p q : Bool). p && q) (eqb-swap k b) (begins_is s key)

-- ---- a decimal number
-- what the next byte b decides, where `rest` is the answer if it is one more digit
abbrev pub by_byte : ℕ → ℕ → ℕ → ℕ → ℕ → Option (ℕ × ℕ) → Option (ℕ × ℕ)
by_byte end most v j b rest =
    cond (eqb b end) (cond (eqb j 0) None (Some (v, j + 1)))
    (cond (ltb b 48) None
    (cond (ltb 57 b) None (cond (ltb most (v * 10 + (b - 48))) None (cond (ltb 0 j && eqb v 0) None rest))))

-- a digit, where x is what the text is read as: the number grows past `most`, or the digit stands behind a leading zero, or it is one more
module _ (j end most v b : ℕ) (rest x : Option (ℕ × ℕ)) (e : x ≡ by_byte end most v j b rest) (d : b ≡ end → ⊥) (h : 48 ≤ b) (k : b ≤ 57) where
  digit : x ≡ cond (ltb most (v * 10 + (b - 48))) None (cond (ltb 0 j && eqb v 0) None rest)
  digit = e ∙ rw (ne_eqb b end d, le-ltb b 48 h, le-ltb 57 b k)

  pub too_large_lem : most < v * 10 + (b - 48) → None ≡ x
  too_large_lem l = sym (digit ∙ rw (lt-ltb most (v * 10 + (b - 48)) l))

  pub behind_zero : v * 10 + (b - 48) ≤ most → (ltb 0 j && eqb v 0) ≡ true → None ≡ x
  behind_zero l z = sym (digit ∙ rw (le-ltb most (v * 10 + (b - 48)) l, z))

  pub one_more : v * 10 + (b - 48) ≤ most → (ltb 0 j && eqb v 0) ≡ false → rest ≡ x
  one_more l z = sym (digit ∙ rw (le-ltb most (v * 10 + (b - 48)) l, z))

pub decimal_step : (end most v j : ℕ) (s : List ℕ) → j < length s
    → decimal_at end most v j (drop j s)
    ≡ by_byte end most v j (get_or s j 0) (decimal_at end most (v * 10 + (get_or s j 0 - 48)) (j + 1) (drop (j + 1) s))
unfolding decimal_at
decimal_step end most v j s h = rw (drop-next ℕ 0 s j h)

pub decimal_end : (end most v j : ℕ) (s : List ℕ) → length s ≤ j → decimal_at end most v j (drop j s) ≡ None
unfolding decimal_at
decimal_end end most v j s h = rw (drop_of_length-le s h)

-- a number that is there is no longer than the text
pub decimal_room : (end most : ℕ) (s : List ℕ) (v n : ℕ) → decimal_at end most 0 0 s ≡ Some (v, n) → n ≤ length s
decimal_room end most s v n e =
    let d = decimal_only end most s v n e in
    omega (arith, d.2, ap length d.1, length-append (decimal v) (end ∷ d.0))

-- ---- a row of hexadecimal digits
-- one more digit
pub hex-step : (j v d : ℕ) (s : List ℕ) → hex_at j s ≡ Some v → digit_at (get_or s j 0) ≡ Some d → hex_at (j + 1) s ≡ Some (v * 16 + d)
unfolding hex_at
hex-step j v d s e h = rw (add-one, e, h)

-- none: no longer row is one either
pub hex_stop : (k j v : ℕ) (s : List ℕ) → j < k → hex_at j s ≡ Some v → digit_at (get_or s j 0) ≡ None → hex_at k s ≡ None
unfolding hex_at
hex_stop k j v s l e h =
    let q : k - suc j + suc j ≡ k = omega arith in
    rw q at (hex-other (k - suc j) (suc j) s (rw (e, h)))

-- fifteen digits and one more fit 64 bits
pub hex_room : (j v : ℕ) (s : List ℕ) → j < 16 → hex_at j s ≡ Some v → v < 2 ^ 60
hex_room j v s l e = lt_of_lt_of_le (hex_only j s v e).0 (pow-le-pow_right {n = 16} (lit< tt) {i = j} {j = 15} (omega arith))

-- ---- a row of 24 numbers, of which j were read: the next, and none
pub numbers-step : (j : ℕ) (us : List ℤ) (at : ℕ) (s : List ℕ) → j < 24
    → numbers_from (24 - j) us at (drop at s)
    ≡ onRead (signed_at (end_before (23 - j)) (drop at s)) None (λ z m. numbers_from (24 - (j + 1)) (us ++ (z ∷ [])) (at + m) (drop (at + m) s))
unfolding numbers_from
numbers-step j us at s h =
    let e : 24 - j ≡ suc (24 - (j + 1)) = omega arith in
    let f : 23 - j ≡ 24 - (j + 1) = omega arith in
    rw (e, f) (simp drop-drop)

pub numbers_end : (j : ℕ) (zs : List ℤ) (at : ℕ) (s : List ℕ) → 24 ≤ j → length zs ≡ 24 → numbers_from (24 - j) (take j zs) at s ≡ Some (zs, at)
unfolding numbers_from
numbers_end j zs at s h l =
    let e : 24 - j ≡ 0 = omega arith in
    let m : length zs ≤ j = omega arith in
    rw (e, take_all j zs m)
