-- `encoder::coordinate` meets its contract. Assumes nothing.
use mathlib.Core.Path.{sym}
use Prim.Native.Nat.{◌+◌, ◌*◌}
use native.Mathlib.Omega.{arith}
use Rattle.search.specs.Record.{bit_at}
use Rattle.search.specs.Entries.{rank_at}
use Rattle.encoder.proofs.Values.{past_three}
use Rattle.encoder.proofs.coordinate.Goals as goal

pub returns-then-p-ge4 : goal.returns-then-p-ge4
returns-then-p-ge4 c = let a = c.args in sym (past_three (a.p + 2 * bit_at a.c a.j) (rank_at a.key a.j) (omega arith))
