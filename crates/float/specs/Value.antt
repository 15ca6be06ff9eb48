-- The exact value of a double. A finite double is a whole number of units of 2 ^ -1074, the least positive double: so many units, with a sign.
-- Which doubles are finite is said by `finite` of Float.Ieee.Scale, in the library. Definitions only.
use Rattle.std.specs.Prelude.{ℕ, suc, ◌+◌, ◌-◌, ◌*◌, ◌^◌, Bool, false, cond, pos, negsuc}
use lib.Ieee.{Float, nan, inf, fin}

-- one, in units
abbrev pub U : ℕ
U = 2 ^ 1074

-- the magnitude in units; 0 for what has no value
unfoldable pub mag_units : Float → ℕ
mag_units nan = 0
mag_units (inf s) = 0
mag_units (fin s m (pos k)) = m * 2 ^ (k + 1074)
mag_units (fin s m (negsuc k)) = m * 2 ^ (1074 - suc k)

-- whether the sign is minus
abbrev pub is_minus : Float → Bool
is_minus nan = false
is_minus (inf s) = s
is_minus (fin s m e) = s

-- the value is pos_units - neg_units, of which one is 0
abbrev pub pos_units : Float → ℕ
pos_units x = cond (is_minus x) 0 (mag_units x)

abbrev pub neg_units : Float → ℕ
neg_units x = cond (is_minus x) (mag_units x) 0

-- 0.0, 1.0 and 4.0
abbrev pub zero64 : Float
zero64 = fin false 0 (pos 0)

abbrev pub one64 : Float
one64 = fin false 1 (pos 0)

abbrev pub four64 : Float
four64 = fin false 1 (pos 2)
