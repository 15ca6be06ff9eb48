-- The invariant of `join::Paths::row`: the best is that of the first t paths. Assumes nothing.
use Rattle.std.proofs.Common.{◌≡◌, ◌≤◌}
use Rattle.search.specs.Tables.{tables}
use Rattle.search.specs.Join.{row_to}
use Rattle.join.proofs.Paths.row.Given as goal

abbrev pub invariant-loop-t : goal.invariant-loop-t
invariant-loop-t l = (l.t ≤ 32) × (l.best ≡ row_to tables l.self.p l.self.sides.now l.i1 l.initial.best l.t)
