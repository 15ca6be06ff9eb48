-- The invariant of `slices::put_point`: storing the coordinates that are left leaves what storing all of them at the start would.
use mathlib.Core.Path.{◌≡◌}
use Prim.Native.Nat.{◌+◌, ◌-◌, ◌≤◌}
use lib.ListN.{length, drop}
use lib.Seq.{sets}
use Rattle.yultarvas.proofs.slices.put_point.Given as goal

abbrev pub invariant-loop-j : goal.invariant-loop-j
invariant-loop-j l = (l.j ≤ 24) × (length l.out ≡ length l.initial.out) × (sets l.out (0 + l.j) (drop l.j l.y) ≡ sets l.initial.out 0 l.y)

abbrev pub decreases-loop-j : goal.decreases-loop-j
decreases-loop-j l = 24 - l.j
