-- `tetra::to_natural`: the coordinates set so far. Assumes nothing.
use Prim.Native.Nat.{◌-◌}
use lib.IntN.{pos}
use Rattle.tetra.specs.Tetra.{natural}
use Rattle.tetra.proofs.Rows.{Laid}
use Rattle.tetra.proofs.to_natural.Given as goal

abbrev pub invariant-loop-i : goal.invariant-loop-i
invariant-loop-i l = Laid (pos 0) (natural l.t) 24 l.out l.i

abbrev pub decreases-loop-i : goal.decreases-loop-i
decreases-loop-i l = 24 - l.i
