-- The scale that `encode` derives from the samples: `lower_scale`, the choice at the head of `encode`, and the second scale of `two_scales` of
-- encoder.rs, one rounding per operation. Definitions only.
use Rattle.std.specs.Prelude.{Bool, false, cond, ◌&&◌, List, [], ◌∷◌, ℕ, eqb, pos, negsuc, Float, Result, Ok, Err}
use Rattle.std.specs.Float.{fin, binary64}
use Rattle.std.specs.Float.Ieee.{mul, div, lt, le, eq}
use Rattle.std.specs.Float.Ieee.Scale.{finite}
use Rattle.refusal.specs.declared.Refusal.{Refusal}
use Rattle.refusal.specs.Refusal.{number_of}
use Rattle.float.specs.Value.{zero64}
use Rattle.float.specs.Calls.{abs_of, quotients_of}
use Rattle.root.specs.Root.{rooted}
use Rattle.score.specs.declared.Scales.{Scales}
use Rattle.score.specs.declared.Choice.{Choice}
use Rattle.score.specs.declared.Choice.TheVariants.{Zero, Scale, Divide}
use Rattle.score.specs.Samples.{sample_number}
use Rattle.score.specs.Score.{dot_of}

-- ---- constants
-- ALPHA, the double nearest 0.3218: bits 0x3fd4_985f_06f6_9446
abbrev pub alpha64 : Float
alpha64 = fin false 2898516720175651 (negsuc 52)

-- RATIO, the double nearest 1.14: bits 0x3ff2_3d70_a3d7_0a3d
abbrev pub ratio64 : Float
ratio64 = fin false 5134103575202365 (negsuc 51)

-- the root of 24.0: that its bits are 0x4013_988e_1409_212e is `root24_is` of Laws/Scale.antt
unfoldable pub root24 : Float
root24 = (rooted (fin false 3 (pos 3))).root

-- 2 ^ -1022
abbrev pub least_normal64 : Float
least_normal64 = fin false 1 (negsuc 1021)

-- ---- lower_scale
-- number 0, the largest magnitude and the lower scale; or the number of a refusal, and +0.0 in each
pub record Measured : Type 0 where
  pub number : ℕ
  pub largest : Float
  pub scale : Float

abbrev pub measured_by : Result Scales Refusal → Measured
measured_by (Ok s) = record { number = 0; largest = s.largest; scale = s.scale }
measured_by (Err r) = record { number = number_of r; largest = zero64; scale = zero64 }

-- f64::max, for an a that is no NaN; where b is one, it is a
abbrev pub larger : Float → Float → Float
larger a b = cond (lt a b) b a

-- the largest magnitude, from +0.0
unfoldable pub largest_from : Float → List Float → Float
largest_from m [] = m
largest_from m (x ∷ xs) = largest_from (larger m (abs_of x)) xs

abbrev pub largest_of : List Float → Float
largest_of xs = largest_from zero64 xs

-- the root of the sum of the squares of each x / m
unfoldable pub unit_norm : List Float → Float → Float
unit_norm xs m = (rooted (dot_of (quotients_of xs m) (quotients_of xs m))).root

-- ALPHA * m * n / root of 24, from left to right
abbrev pub scale_with : Float → Float → Float
scale_with m n = div binary64 (mul binary64 (mul binary64 alpha64 m) n) root24

-- (0, 0) where m is 0
abbrev pub scales_at : List Float → Float → Measured
scales_at xs m =
    cond (eq m zero64) (record { number = 0; largest = zero64; scale = zero64 })
    (record { number = 0; largest = m; scale = scale_with m (unit_norm xs m) })

unfoldable pub lower_scale : List Float → Measured
lower_scale xs = scales_at xs (largest_of xs)

-- ---- the call `lower_scale`: a refusal has +0.0 in each
abbrev pub scales_as : ℕ → Measured → Measured
scales_as n s = cond (eqb n 0) s (record { number = n; largest = zero64; scale = zero64 })

abbrev pub scales : List Float → Measured
scales xs = scales_as (sample_number xs) (lower_scale xs)

-- ---- the choice at the head of `encode`
-- f64::is_normal: no NaN, no infinity, no zero, and not below 2 ^ -1022 in magnitude
abbrev pub is_normal : Float → Bool
is_normal s = finite s && le least_normal64 (abs_of s)

-- all zero; a scale; a magnitude to divide by, with the scale for afterwards
abbrev pub choice_from : List Float → Measured → Choice
choice_from xs a =
    cond (eq a.largest zero64) Zero
    (cond (is_normal a.scale) (Scale a.scale) (Divide a.largest (lower_scale (quotients_of xs a.largest)).scale))

unfoldable pub choice_of : List Float → Choice
choice_of xs = choice_from xs (lower_scale xs)

-- what is coded under a choice, and at which two scales
abbrev pub samples_for : Choice → List Float → List Float
samples_for Zero xs = xs
samples_for (Scale s) xs = xs
samples_for (Divide m s) xs = quotients_of xs m

abbrev pub first_scale : Choice → Float
first_scale Zero = zero64
first_scale (Scale s) = s
first_scale (Divide m s) = s

abbrev pub second_scale : Float → Float
second_scale s = mul binary64 s ratio64
