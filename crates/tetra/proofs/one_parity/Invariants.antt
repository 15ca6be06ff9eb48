-- `tetra::one_parity`: what is left of the row says what the whole row says. Assumes nothing.
use mathlib.Core.Path.{◌≡◌}
use Prim.Native.Nat.{◌-◌, ◌≤◌}
use lib.ListN.{drop}
use Rattle.rank.specs.Section.{uniform}
use Rattle.tetra.proofs.one_parity.Given as goal

abbrev pub invariant-loop-j : goal.invariant-loop-j
invariant-loop-j l = (l.j ≤ 24) × (uniform l.p (drop l.j l.y) ≡ uniform l.p l.y)

abbrev pub decreases-loop-j : goal.decreases-loop-j
decreases-loop-j l = 24 - l.j
