-- The invariant of `line::row`: the bytes passed are digits, and make v. Assumes nothing.
use mathlib.Core.Path.{◌≡◌}
use Prim.Native.Nat.{◌-◌, ◌≤◌}
use Rattle.std.specs.Prelude.{Some}
use Rattle.text.specs.Lines.{hex_at}
use Rattle.text.proofs.line.row.Given as goal

abbrev pub invariant-loop-j : goal.invariant-loop-j
invariant-loop-j l = (l.j ≤ l.k) × (hex_at l.j l.s ≡ Some l.v)

abbrev pub decreases-loop-j : goal.decreases-loop-j
decreases-loop-j l = l.k - l.j
