-- The invariant of `line::decimal`: reading on from here gives what reading from the start does. Assumes nothing.
use mathlib.Core.Path.{◌≡◌}
use Prim.Native.Nat.{◌-◌, ◌≤◌}
use lib.ListN.{length, drop}
use Rattle.text.specs.Lines.{decimal_at}
use Rattle.text.proofs.line.decimal.Given as goal

abbrev pub invariant-loop-j : goal.invariant-loop-j
invariant-loop-j l = (l.v ≤ l.most) × (decimal_at l.end l.most l.v l.j (drop l.j l.s) ≡ decimal_at l.end l.most 0 0 l.s)

abbrev pub decreases-loop-j : goal.decreases-loop-j
decreases-loop-j l = length l.s - l.j
