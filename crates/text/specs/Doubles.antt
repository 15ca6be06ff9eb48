-- The bits that are written for a double. Assumes nothing.
use Rattle.std.specs.Prelude.{false, cond, ◌||◌, ℕ, Float, pos}
use Rattle.std.specs.Float.{fin, binary64}
use Rattle.std.specs.Float.Ieee.{lt, to_bits}

abbrev none : Float
none = fin false 0 (pos 0)

-- those of a number on either side of zero, and else zeros: the sign of a zero is cleared, and a NaN is written as a zero
unfoldable pub bits_shown : Float → ℕ
bits_shown x = cond (lt x none || lt none x) (to_bits binary64 x) 0
