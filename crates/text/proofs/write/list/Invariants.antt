-- The invariant of `write::list`: writing the numbers that are left, each behind a comma, leaves what writing all of them behind the first
-- would. Assumes nothing.
use mathlib.Core.Path.{◌≡◌}
use Prim.Native.Nat.{◌+◌, ◌*◌, ◌-◌, ◌≤◌}
use lib.ListN.{length, drop}
use lib.Seq.{sets}
use Rattle.text.specs.Text.{commas}
use Rattle.text.proofs.write.list.Given as goal

abbrev pub invariant-loop-j : goal.invariant-loop-j
invariant-loop-j l =
    (l.j ≤ 24) × (length l.out ≡ length l.initial.out) × (l.next ≤ l.at + 12 * l.j)
    × (l.next + length (commas (drop l.j l.counts)) ≡ l.initial.next + length (commas (drop 1 l.counts)))
    × (sets l.out l.next (commas (drop l.j l.counts)) ≡ sets l.initial.out l.initial.next (commas (drop 1 l.counts)))

abbrev pub decreases-loop-j : goal.decreases-loop-j
decreases-loop-j l = 24 - l.j
