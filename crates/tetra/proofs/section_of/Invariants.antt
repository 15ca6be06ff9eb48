-- `tetra::section_of`: the coordinates laid out so far. Assumes nothing.
use Prim.Native.Nat.{◌-◌}
use lib.IntN.{pos}
use Rattle.rank.specs.Section.{point_at}
use Rattle.tetra.proofs.Rows.{Laid}
use Rattle.tetra.proofs.section_of.Given as goal

abbrev pub invariant-loop-j : goal.invariant-loop-j
invariant-loop-j l = Laid (pos 0) (point_at l.p l.c l.rho) 8 l.out l.j

abbrev pub decreases-loop-j : goal.decreases-loop-j
decreases-loop-j l = 8 - l.j
