-- The invariant of `join::Paths::bounds`: the bounds are those of the first n paths. Assumes nothing.
use Rattle.std.proofs.Common.{◌≡◌, ◌≤◌}
use Rattle.search.specs.Tables.{tables}
use Rattle.search.specs.Parity.{bounds_to}
use Rattle.join.proofs.Steps.{bounds_by}
use Rattle.join.proofs.Paths.bounds.Given as goal

abbrev pub invariant-loop-n : goal.invariant-loop-n
invariant-loop-n l = (l.n ≤ 4096) × (bounds_by l.u l.b1 l.b2 l.b3 ≡ bounds_to tables l.self.p l.self.sides.now l.u0 l.n)
