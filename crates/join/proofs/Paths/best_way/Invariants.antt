-- The invariant of `join::Paths::best_way`: the best is that of the first i1 end entries. Assumes nothing.
use Rattle.std.proofs.Common.{◌≡◌, ◌≤◌}
use Rattle.search.specs.Tables.{tables}
use Rattle.search.specs.Join.{join_to}
use Rattle.join.proofs.Paths.best_way.Given as goal

abbrev pub invariant-loop-i1 : goal.invariant-loop-i1
invariant-loop-i1 l = (l.i1 ≤ 128) × (l.best ≡ join_to tables l.self.p l.self.sides.now l.i1)
