-- `tetra::middle_row`. Assumes nothing.
use native.Mathlib.Omega.{arith}
use borrow.Author.Tests.{lt-ltb, le-ltb}
use Rattle.rows.specs.Table.{middle_row}
use Rattle.tetra.proofs.middle_row.Goals as goal

pub returns-then-i-lt-N0_MIXED : goal.returns-then-i-lt-N0_MIXED
unfolding middle_row
returns-then-i-lt-N0_MIXED c = (rw (lt-ltb c.args.i 1240 (omega arith)), omega arith)

pub returns : goal.returns
unfolding middle_row
returns c = (rw (le-ltb c.args.i 1240 (omega arith)), omega arith)
