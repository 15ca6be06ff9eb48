-- `tetra::marks`: the marks set so far. Assumes nothing.
use Prim.Native.Nat.{◌*◌, ◌-◌}
use lib.ListN.{take, drop}
use Rattle.rank.specs.Answers.{marks_of}
use Rattle.tetra.proofs.Rows.{Laid}
use Rattle.tetra.proofs.marks.Given as goal

abbrev pub invariant-loop-j : goal.invariant-loop-j
invariant-loop-j l = Laid 0 (marks_of (take 8 (drop (8 * l.s) l.t))) 8 l.rho l.j

abbrev pub decreases-loop-j : goal.decreases-loop-j
decreases-loop-j l = 8 - l.j
