-- The root of a double. Which double is the nearest to the exact root is stated over whole numbers, by squares. Definitions only.
use Rattle.std.specs.Prelude.{true, false, cond, ◌≡◌, ℕ, zero, suc, ◌+◌, ◌-◌, ◌*◌, ◌/◌, ◌^◌, ◌<◌, T, leb, ltb, Float, Result, Ok, Err}
use Rattle.std.specs.Float.{nan, inf, fin, binary64}
use Rattle.std.specs.Float.Ieee.{fits, size, round}
use Rattle.std.specs.Float.Ieee.Scale.{finite}
use Rattle.refusal.specs.declared.Refusal.{Refusal}
use Rattle.refusal.specs.Refusal.{out_of_range, number_of}
use Rattle.float.specs.Value.{U, mag_units, is_minus, zero64}

-- r is the double nearest to the root of x. x is mag_units x units, and one is U units, so the root of x is √(mag_units x * U) units. The middle
-- of r and another double y is half of mag_units y + mag_units r. The root lies above the middle of r and each smaller double, and below the
-- middle of r and each larger one; it never lies on a middle. (A root is not negative, so magnitudes are enough.)
pub record NearestRoot (x r : Float) : Type 0 where
  pub fit : T (fits binary64 r)
  pub fin : T (finite r)
  pub sign : is_minus r ≡ false
  pub below : (y : Float) → T (fits binary64 y) → T (finite y) → mag_units y < mag_units r
      → (mag_units y + mag_units r) * (mag_units y + mag_units r) < 4 * (mag_units x * U)
  pub above : (y : Float) → T (fits binary64 y) → T (finite y) → mag_units r < mag_units y
      → 4 * (mag_units x * U) < (mag_units y + mag_units r) * (mag_units y + mag_units r)

-- ---- a way to compute it: that it is the nearest, and the only one, is proved in Nearest.antt
-- the whole root of an n below 4 ^ d, digit by digit: twice the root of n / 4, or one more where that still fits
abbrev pub twice_or : ℕ → ℕ → ℕ
twice_or r n = cond (leb ((r * 2 + 1) * (r * 2 + 1)) n) (r * 2 + 1) (r * 2)

unfoldable pub whole_root : ℕ → ℕ → ℕ
whole_root zero n = 0
whole_root (suc d) n = twice_or (whole_root d (n / 4)) n

-- the whole number nearest to the root, r being the whole root: one more where n is above the square of r + 1 / 2
abbrev pub nearer : ℕ → ℕ → ℕ
nearer r n = cond (ltb (r * r + r) n) (r + 1) r

-- the root of n to 53 digits, the last of which counts 2 ^ k
abbrev pub root_to : ℕ → ℕ → ℕ
root_to k n = nearer (whole_root 53 (n / 4 ^ k)) (n / 4 ^ k) * 2 ^ k

-- the root of x in units: n / 4 ^ k has 105 or 106 digits, so its root has 53
unfoldable pub root_units : Float → ℕ
root_units x = root_to ((size (mag_units x * U) - 105) / 2) (mag_units x * U)

-- and as a double, which has room for all 53: nothing is rounded here
unfoldable pub root_of : Float → Float
root_of x = round binary64 false (root_units x) U

-- ---- the answer for every double: a NaN, an infinity and a negative have no root; either zero is its own
-- an answer of `root` in document 01's terms: number 0 and the root, or the number of a refusal and +0.0
pub record Rooted : Type 0 where
  pub number : ℕ
  pub root : Float

abbrev pub rooted_by : Result Float Refusal → Rooted
rooted_by (Ok r) = record { number = 0; root = r }
rooted_by (Err r) = record { number = number_of r; root = zero64 }

abbrev pub no_root : Rooted
no_root = record { number = out_of_range; root = zero64 }

unfoldable pub rooted : Float → Rooted
rooted nan = no_root
rooted (inf s) = no_root
rooted (fin s zero e) = record { number = 0; root = fin s zero e }
rooted (fin true (suc m) e) = no_root
rooted (fin false (suc m) e) = record { number = 0; root = root_of (fin false (suc m) e) }
