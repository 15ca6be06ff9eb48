-- The loop's invariant of `root::raised` is `Raising`; n grows towards 2 ^ 52.
use Prim.Native.Nat.{◌-◌, ◌^◌, ◌<◌}
use Rattle.root.proofs.Loops.{Raising}
use Rattle.root.proofs.raised.Given as goal

abbrev pub invariant-loop-n : goal.invariant-loop-n
invariant-loop-n l = Raising l.m l.n l.h × (0 < l.n)

abbrev pub decreases-loop-n : goal.decreases-loop-n
decreases-loop-n l = 2 ^ 52 - l.n
