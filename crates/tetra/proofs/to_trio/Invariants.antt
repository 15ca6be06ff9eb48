-- `tetra::to_trio`: the coordinates set so far. Assumes nothing.
use Prim.Native.Nat.{◌-◌}
use lib.IntN.{pos}
use Rattle.tetra.specs.Lattice.{trio}
use Rattle.tetra.proofs.Rows.{Laid}
use Rattle.tetra.proofs.to_trio.Given as goal

abbrev pub invariant-loop-j : goal.invariant-loop-j
invariant-loop-j l = Laid (pos 0) (trio l.y) 24 l.out l.j

abbrev pub decreases-loop-j : goal.decreases-loop-j
decreases-loop-j l = 24 - l.j
