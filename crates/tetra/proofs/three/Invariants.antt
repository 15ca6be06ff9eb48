-- `tetra::three`: the coordinates laid out so far. Assumes nothing.
use mathlib.Core.List.{◌++◌}
use Prim.Native.Nat.{◌-◌}
use lib.IntN.{pos}
use Rattle.tetra.proofs.Rows.{Laid}
use Rattle.tetra.proofs.three.Given as goal

abbrev pub invariant-loop-j : goal.invariant-loop-j
invariant-loop-j l = Laid (pos 0) (l.a ++ (l.b ++ l.c)) 24 l.out l.j

abbrev pub decreases-loop-j : goal.decreases-loop-j
decreases-loop-j l = 24 - l.j
