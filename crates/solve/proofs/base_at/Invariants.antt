-- `solve::base_at` meets its contract. The invariant: cost, key and distance are those of the first j coordinates, and each adds less than 65,536
-- to the cost. Assumes nothing.
use Prim.Native.Nat.{◌≤◌, ◌*◌}
use mathlib.Core.Path.{◌≡◌}
use Rattle.search.specs.declared.Candidate.{Candidate}
use Rattle.solve.specs.Inner.Flat.{base_in}
use Rattle.solve.proofs.base_at.Given as goal

abbrev pub invariant-loop-j : goal.invariant-loop-j
invariant-loop-j l =
    (l.j ≤ 8) × ((l.cost ≤ 65536 * l.j) × (◌≡◌ {A = Candidate} (record { cost = l.cost; key = l.key; dist = l.d }) (base_in l.rows l.at.at l.j0 l.fix l.j)))
