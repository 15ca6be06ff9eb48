-- `solve::moves` meets its contract. The invariant: the best is that after the turns of the first j coordinates. Assumes nothing.
use Prim.Native.Nat.{◌≤◌}
use mathlib.Core.Path.{◌≡◌}
use Rattle.solve.specs.Inner.Flat.{moves_in}
use Rattle.solve.proofs.moves.Given as goal

abbrev pub invariant-loop-j : goal.invariant-loop-j
invariant-loop-j l =
    (l.j ≤ 8) × (l.best ≡ moves_in l.rows l.at.at (record { j0 = l.j0; j1 = l.j1 }) l.fix l.bound l.n l.initial.best l.j)
