-- The invariant of `write::hex_digits`: writing the digits that are left leaves what writing all of them at the start would. Assumes nothing.
use mathlib.Core.Path.{◌≡◌}
use Prim.Native.Nat.{◌-◌, ◌≤◌}
use lib.ListN.{length}
use lib.Seq.{sets}
use Rattle.text.specs.Text.{hex}
use Rattle.text.proofs.write.hex_digits.Given as goal

abbrev pub invariant-loop-j : goal.invariant-loop-j
invariant-loop-j l =
    (l.j ≤ l.k) × (length l.out ≡ length l.initial.out) × (sets l.out l.at (hex (l.k - l.j) l.v) ≡ sets l.initial.out l.at (hex l.k l.n))
