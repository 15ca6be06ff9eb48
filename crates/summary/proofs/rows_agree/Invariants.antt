-- The invariant of `rows_agree`: the rows that are left agree just where all do.
use mathlib.Core.Path.{◌≡◌}
use Prim.Native.Nat.{◌+◌, ◌*◌}
use lib.ListN.{drop}
use Rattle.summary.specs.Summary.{block_rows}
use Rattle.summary.specs.Answer.{begin, agree}
use Rattle.summary.proofs.rows_agree.Given as goal

abbrev pub invariant-loop-i : goal.invariant-loop-i
invariant-loop-i l = begin (drop (4 * (l.i + 1)) l.rows) (block_rows (drop l.i l.word-items)) ≡ agree l.word-items l.rows
