-- What the functions of this crate answer, for every double. Definitions only.
use Rattle.std.specs.Prelude.{ℕ, ◌+◌, ◌*◌, ◌/◌, true, false, cond, List, [], ◌∷◌, ℤ, pos, neg_ℤ, Float}
use Rattle.std.specs.Float.{nan, inf, fin, binary64}
use Rattle.std.specs.Float.Ieee.{add, div, lt}
use Rattle.float.specs.Value.{U, mag_units, is_minus, zero64}

-- |x|
unfoldable pub abs_of : Float → Float
abs_of nan = nan
abs_of (inf s) = inf false
abs_of (fin s m e) = fin false m e

-- ---- the nearest whole number, halves away from zero: -0.5 gives -1, 2.5 gives 3, 0.49999999999999994 gives 0
-- of the magnitude: a half is added and the fraction cut off, over whole numbers of units and so without error
unfoldable pub half_up : Float → ℕ
half_up x = (mag_units x * 2 + U) / (U * 2)

unfoldable pub round_away : Float → ℤ
unfolding half_up
round_away x = cond (is_minus x) (neg_ℤ (pos (half_up x))) (pos (half_up x))

-- 1000000.0 and -1000000.0
abbrev pub million64 : Float
million64 = fin false 15625 (pos 6)

abbrev pub minus_million64 : Float
minus_million64 = fin true 15625 (pos 6)

-- z, or the end of the range from -1000000.0 to 1000000.0 that it lies beyond; a NaN stays
unfoldable pub clamped : Float → Float
clamped z = cond (lt z minus_million64) minus_million64 (cond (lt million64 z) million64 z)

-- the Rust's z.clamp(-1e6, 1e6).round() as i32: so a number beyond the range, and an infinity, gives its end, and a NaN gives 0
unfoldable pub rounded : Float → ℤ
unfolding clamped round_away
rounded z = round_away (clamped z)

-- ---- sums from left to right, one rounding per addition
unfoldable pub sum_from : Float → List Float → Float
sum_from acc [] = acc
sum_from acc (x ∷ xs) = sum_from (add binary64 acc x) xs

-- from +0.0
abbrev pub sum_of : List Float → Float
sum_of xs = sum_from zero64 xs

-- ---- each number divided by s, one rounding each
unfoldable pub quotients_of : List Float → Float → List Float
quotients_of [] s = []
quotients_of (x ∷ xs) s = div binary64 x s ∷ quotients_of xs s
