-- `coord::rows_of`. The invariants: the rows hold the records before i, and the first f slots of record i.
use Rattle.std.proofs.Common.{◌≤◌, ◌+◌, ◌*◌}
use Rattle.coord.specs.Inner.Rows.{table_of}
use Rattle.coord.proofs.Filled.{Ones, Fives}
use Rattle.coord.proofs.rows_of.Given as goal

abbrev pub invariant-loop-f : goal.invariant-loop-f
invariant-loop-f l = (l.f ≤ 5) × Fives (table_of l.t l.low) l.dist l.weight l.rank (5 * l.i + l.f)

abbrev pub invariant-loop-i : goal.invariant-loop-i
invariant-loop-i l = (l.i ≤ 128) × (Ones (table_of l.t l.low) l.regret l.odd l.up l.i × Fives (table_of l.t l.low) l.dist l.weight l.rank (5 * l.i))
