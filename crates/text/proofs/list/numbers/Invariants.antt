-- The invariant of `list::numbers`: reading on from here, behind the numbers so far, gives what reading from `start` does. Assumes nothing.
use mathlib.Core.Path.{◌≡◌}
use mathlib.Core.List.{[]}
use Prim.Native.Nat.{◌-◌, ◌≤◌}
use lib.ListN.{length, take, drop}
use Rattle.text.specs.Rows.{numbers_from}
use Rattle.text.proofs.list.numbers.Given as goal

abbrev pub invariant-loop-j : goal.invariant-loop-j
invariant-loop-j l =
    (l.j ≤ 24) × (l.at ≤ length l.s) × (length l.values ≡ 24)
    × (numbers_from (24 - l.j) (take l.j l.values) l.at (drop l.at l.s) ≡ numbers_from 24 [] l.start (drop l.start l.s))

abbrev pub decreases-loop-j : goal.decreases-loop-j
decreases-loop-j l = 24 - l.j
