-- The invariant of `read_row`: reading on from here, behind the words so far, gives what reading from `at` does. Assumes nothing.
use mathlib.Core.Path.{◌≡◌}
use Prim.Native.Nat.{◌-◌, ◌≤◌}
use lib.ListN.{length, take}
use Rattle.request.specs.Rows.{row_from, row_after}
use Rattle.request.proofs.read_row.Given as goal

abbrev pub invariant-loop-k : goal.invariant-loop-k
invariant-loop-k g l =
    (l.k ≤ 24) × (length l.row ≡ 24) × (row_from g.T.Word.after l.s (24 - l.k) (take l.k l.row) l.next ≡ row_after g.T.Word.after l.s l.at)
