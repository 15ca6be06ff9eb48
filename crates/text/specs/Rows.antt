-- What is read at the start of a text: a number with its sign, and a line of a key and 24 such numbers with commas between them.
-- Assumes nothing.
use Rattle.std.specs.Prelude.{cond, List, [], ◌∷◌, ◌++◌, ℕ, zero, suc, ◌+◌, ◌^◌, ◌<◌, ◌≤◌, ℤ, pos, negsuc, neg_ℤ, length, drop, get_or, Option, Some, None}
use Rattle.text.specs.Text.{bytes}
use Rattle.text.specs.Lines.{onRead, begins, decimal_at, keyed_at}

-- ---- a number with its sign
-- an i32: from -2147483648 to 2147483647
abbrev pub IsI32 : ℤ → Type 0
IsI32 (pos n) = n < 2 ^ 31
IsI32 (negsuc n) = suc n ≤ 2 ^ 31

-- each of the numbers is one
abbrev pub AllI32 : List ℤ → Type 0
AllI32 zs = (k : ℕ) → k < length zs → IsI32 (get_or zs k (pos 0))

-- one below zero, and the byte `end` behind it: so -0 is none
unfoldable pub below_at : ℕ → List ℕ → Option (ℤ × ℕ)
below_at end s = onRead (keyed_at end (bytes "-") 1 2147483648 s) None (λ v n. Some (neg_ℤ (pos v), n))

-- one of either sign
unfoldable pub signed_at : ℕ → List ℕ → Option (ℤ × ℕ)
signed_at end s = onRead (decimal_at end 2147483647 0 0 s) (below_at end s) (λ v n. Some (pos v, n))

-- ---- a row of them
-- the byte behind a number that n more follow: a comma, the byte 44, or LF behind the last
abbrev pub end_before : ℕ → ℕ
end_before zero = 10
end_before (suc n) = 44

-- n numbers more, where zs were read, and `at` bytes
unfoldable pub numbers_from : ℕ → List ℤ → ℕ → List ℕ → Option (List ℤ × ℕ)
numbers_from zero zs at s = Some (zs, at)
numbers_from (suc n) zs at s = onRead (signed_at (end_before n) s) None (λ z m. numbers_from n (zs ++ (z ∷ [])) (at + m) (drop m s))

-- ---- a line of a key and 24 of them: its numbers and how many bytes it takes, its LF included
unfoldable pub list_line_at : List ℕ → List ℕ → Option (List ℤ × ℕ)
list_line_at key s = cond (begins s key) (numbers_from 24 [] (length key) (drop (length key) s)) None
