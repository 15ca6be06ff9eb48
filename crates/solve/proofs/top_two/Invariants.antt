-- `solve::top_two` meets its contract. The invariant: the two coordinates are those of the first i + 2, and the two numbers beside them are
-- their regrets. Assumes nothing.
use Prim.Native.Nat.{◌≤◌}
use mathlib.Core.Path.{◌≡◌}
use Rattle.search.specs.declared.Top.{Top}
use Rattle.solve.specs.Inner.Flat.{top_in, regret_at}
use Rattle.solve.proofs.top_two.Given as goal

abbrev pub invariant-loop-i : goal.invariant-loop-i
invariant-loop-i l =
    (l.i ≤ 6) × ((◌≡◌ {A = Top} (record { j0 = l.j0; j1 = l.j1 }) (top_in l.rows l.at.at l.i)) × ((l.m0 ≡ regret_at l.rows l.at.at l.j0) × (l.m1 ≡ regret_at l.rows l.at.at l.j1)))
