-- What a host asks before it relies on the doubles: two sums for the rounding, one for subnormal numbers.
-- Definitions, and that over the doubles of the contracts the answer is the good one. On a thread that rounds
-- otherwise, or flushes, the same sums come out otherwise.
use Rattle.std.specs.Prelude.{◌≡◌, refl, Bool, false, cond, ◌&&◌, ℕ, negsuc, Float}
use Rattle.std.specs.Float.{fin, binary64}
use Rattle.std.specs.Float.Ieee.{add, lt, eq}
use Rattle.float.specs.Value.{zero64, one64}

-- ---- the operands
-- 1 + 2 ^ -53 and 1 + 3 * 2 ^ -53 each lie in the middle of two doubles; of these 1 and 1 + 2 ^ -51 are even
abbrev pub half_step64 : Float
half_step64 = fin false 1 (negsuc 52)

abbrev pub three_halves64 : Float
three_halves64 = fin false 3 (negsuc 52)

abbrev pub two_steps64 : Float
two_steps64 = fin false 2251799813685249 (negsuc 50)

-- 2 ^ -1074, the least double above 0
abbrev pub least64 : Float
least64 = fin false 1 (negsuc 1073)

-- ---- the sums
-- the first tie goes down to 1, the second up to 1 + 2 ^ -51: to the even one of its two
abbrev pub rounds_to_even : Float → Bool
rounds_to_even one = eq (add binary64 one half_step64) one64 && eq (add binary64 one three_halves64) two_steps64

abbrev pub keeps_subnormals : Float → Bool
keeps_subnormals least = lt zero64 (add binary64 least least)

-- 0 where both are as they should be; 1 for the rounding, else 2 for subnormal numbers
unfoldable pub environment_of : Float → Float → ℕ
environment_of one least = cond (rounds_to_even one) (cond (keeps_subnormals least) 0 2) 1

-- ---- at 1.0 and at the least double the answer is 0
pub as_it_should_be : environment_of one64 least64 ≡ 0
unfolding environment_of eq add lt
as_it_should_be = refl
