-- The loop's invariant of `root::root_digits` is `Upto`.
use Prim.Native.Nat.{◌-◌}
use Rattle.root.proofs.Loops.{Upto}
use Rattle.root.proofs.root_digits.Given as goal

abbrev pub invariant-loop-i : goal.invariant-loop-i
invariant-loop-i l = Upto l.m l.left l.i l.s.root l.s.rem

abbrev pub decreases-loop-i : goal.decreases-loop-i
decreases-loop-i l = 53 - l.i
