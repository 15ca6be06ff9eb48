-- What is refused of samples and of a scale: the numbers 1 to 4 of document 01, "Numbers that answer a bad call". Definitions only.
use Rattle.std.specs.Prelude.{Bool, false, cond, not, ◌&&◌, ◌||◌, List, [], ◌∷◌, ℕ, T, eqb, get_or, pos, Float}
use Rattle.std.specs.Float.{fin, nan, binary64}
use Rattle.std.specs.Float.Ieee.{fits, lt}
use Rattle.std.specs.Float.Ieee.Scale.{finite}
use Rattle.refusal.specs.Refusal.{not_finite, too_large, no_scale, too_far}
use Rattle.float.specs.Value.{zero64}
use Rattle.float.specs.Calls.{abs_of, million64, quotients_of}

-- an array of doubles as a list: each is one that the format holds
abbrev pub AllFit : List Float → Type 0
AllFit xs = (k : ℕ) → T (fits binary64 (get_or xs k nan))

-- the double nearest 1e290: 5776622002767455 * 2 ^ 911, bits 0x7c24_85ce_9e7a_065f
abbrev pub limit64 : Float
limit64 = fin false 5776622002767455 (pos 911)

-- ---- tests of one number
-- a NaN or an infinity
abbrev pub unbounded : Float → Bool
unbounded x = not (finite x)

-- |x| > l
abbrev pub exceeds : Float → Float → Bool
exceeds l x = lt l (abs_of x)

-- one of them passes the test
unfoldable pub some : (Float → Bool) → List Float → Bool
some f [] = false
some f (x ∷ xs) = f x || some f xs

-- ---- of the samples: 1 over all of them, then 2 over all
unfoldable pub sample_number : List Float → ℕ
sample_number xs = cond (some unbounded xs) not_finite (cond (some (exceeds limit64) xs) too_large 0)

-- ---- of the samples at a scale: 3, then 1 and 2, then 4 over all quotients
-- a finite number above 0
abbrev pub is_scale : Float → Bool
is_scale s = finite s && lt zero64 s

-- the first number of two that refuses
abbrev pub or_else : ℕ → ℕ → ℕ
or_else a b = cond (eqb a 0) b a

abbrev pub quotient_number : List Float → ℕ
quotient_number qs = cond (some (exceeds million64) qs) too_far 0

unfoldable pub scale_number : List Float → Float → ℕ
scale_number xs s = cond (is_scale s) (or_else (sample_number xs) (quotient_number (quotients_of xs s))) no_scale
