-- The invariant of `blocks_of` is `Kept`: the samples read so far are in the array, and reading on from here gives what reading from the
-- start does.
use Prim.Native.Nat.{◌-◌}
use Rattle.trace.proofs.Blocks.{Kept}
use Rattle.trace.proofs.blocks_of.Given as goal

abbrev pub invariant-loop-at : goal.invariant-loop-at
invariant-loop-at l = Kept l.text l.num l.samples l.at l.i

abbrev pub decreases-loop-at : goal.decreases-loop-at
decreases-loop-at l = 64 - l.i
