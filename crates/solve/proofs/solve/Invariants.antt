-- `solve::solve` meets its contract. The first shrink stands before the loop; the invariant: the best is that after the first shrink and i more.
-- Assumes nothing.
use Prim.Native.Nat.{◌≤◌}
use mathlib.Core.Path.{◌≡◌}
use Rattle.solve.specs.Inner.Flat.{layers_in}
use Rattle.solve.proofs.solve.Given as goal

abbrev pub invariant-loop-i : goal.invariant-loop-i
invariant-loop-i l =
    (l.i ≤ l.i-end) × (l.best ≡ layers_in l.rows l.pattern l.want l.bound l.i)
