-- The invariant of `put_summary`: storing the rows that are left leaves what storing all of them at the start would.
use mathlib.Core.Path.{◌≡◌}
use Prim.Native.Nat.{◌+◌, ◌*◌}
use lib.ListN.{length, drop}
use lib.Seq.{sets}
use Rattle.summary.specs.Summary.{block_rows}
use Rattle.summary.proofs.put_summary.Given as goal

abbrev pub invariant-loop-i : goal.invariant-loop-i
invariant-loop-i l =
    (length l.rows ≡ length l.initial.rows)
    × (sets l.rows (4 * (l.i + 1)) (block_rows (drop l.i l.word-items)) ≡ sets l.initial.rows 4 (block_rows l.word-items))
