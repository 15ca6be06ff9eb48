-- Sums and differences of values that are near exact numbers of units of 2 ^ -2148, with one cap for all: below 2 ^ 21 in size, each operation
-- within 2 ^ -33.
use Rattle.std.specs.Prelude.{ℕ, ◌+◌, ◌*◌, ◌^◌, ◌≤◌, ◌<◌, Float}
use Rattle.std.proofs.Common.{le_of_eq, lt_of_le_of_lt, add-mul, lt_of_mul-lt-mul_right, arith, lit≤}
use Rattle.std.specs.Float.{binary64}
use Rattle.std.specs.Float.Ieee.{add, sub}
use Rattle.float.specs.Value.{mag_units, U}
use Rattle.float.specs.Laws.Near.{Near, near_mag}
use Rattle.float.specs.Laws.Arithmetic.{near_add, near_sub}
use Rattle.laws.specs.Words.{gap}

abbrev pub Cap : ℕ
Cap = 2 ^ 2169

-- the error of one operation
abbrev pub H : ℕ
H = 2 ^ 2115

sizes : {x y : Float} {p n e q m f : ℕ} → Near U x p n e → Near U y q m f → p + n + e + (q + m + f) < Cap → mag_units x + mag_units y < 2 ^ 1095
sizes {x} {y} {p} {n} {e} {q} {m} {f} a b h =
    lt_of_mul-lt-mul_right U (lt_of_le_of_lt (le_of_eq (add-mul (mag_units x) (mag_units y) U))
    (lt_of_le_of_lt (go (mag_units x * U) (mag_units y * U) p n e q m f (near_mag a) (near_mag b)) h))
  where
    go : (x y p n e q m f : ℕ) → x ≤ gap p n + e → y ≤ gap q m + f → x + y ≤ p + n + e + (q + m + f)
    go x y p n e q m f h k = omega arith

pub near-plus : {x y : Float} {p n e q m f : ℕ} → Near U x p n e → Near U y q m f → p + n + e + (q + m + f) < Cap
    → Near U (add binary64 x y) (p + q) (n + m) (e + f + H)
near-plus a b h = near_add 21 a b (lit≤ tt) (sizes a b h)

pub near_less : {x y : Float} {p n e q m f : ℕ} → Near U x p n e → Near U y q m f → p + n + e + (q + m + f) < Cap
    → Near U (sub binary64 x y) (p + m) (n + q) (e + f + H)
near_less a b h = near_sub 21 a b (lit≤ tt) (sizes a b h)
