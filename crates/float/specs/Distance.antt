-- The exact squared distance of a point of whole numbers and a target of doubles, and the sum of doubles that stands for it. Definitions only.
use Rattle.std.specs.Prelude.{ℕ, ◌+◌, ◌*◌, ◌^◌, List, [], ◌∷◌, ℤ, Float}
use Rattle.std.specs.Float.{binary64}
use Rattle.std.specs.Float.Ieee.{sub, mul, of_int}
use Rattle.laws.specs.Words.{pos_part, neg_part, gap}
use Rattle.float.specs.Value.{U, pos_units, neg_units}
use Rattle.float.specs.Calls.{sum_of}

-- |y - t|, in units of 2 ^ -1074
abbrev pub coord_gap : ℤ → Float → ℕ
coord_gap y t = gap (pos_part y * U + neg_units t) (neg_part y * U + pos_units t)

-- the sum of the squares of y - t, in units of 2 ^ -2148
unfoldable pub sq_dist : List ℤ → List Float → ℕ
sq_dist [] ts = 0
sq_dist (y ∷ ys) [] = 0
sq_dist (y ∷ ys) (t ∷ ts) = coord_gap y t * coord_gap y t + sq_dist ys ts

-- 2 ^ -20 in those units
abbrev pub margin : ℕ
margin = 2 ^ 2128

-- ---- the same in doubles, as `dist_to` of encoder.rs: (v - t) * (v - t) with v = y as f64, each operation rounded, summed from +0.0 and
-- from left to right
abbrev pub sq_diff : Float → Float → Float
sq_diff v t = mul binary64 (sub binary64 v t) (sub binary64 v t)

unfoldable pub sq_terms : List ℤ → List Float → List Float
sq_terms [] ts = []
sq_terms (y ∷ ys) [] = []
sq_terms (y ∷ ys) (t ∷ ts) = sq_diff (of_int binary64 y) t ∷ sq_terms ys ts

abbrev pub float_dist : List ℤ → List Float → Float
float_dist ys ts = sum_of (sq_terms ys ts)
