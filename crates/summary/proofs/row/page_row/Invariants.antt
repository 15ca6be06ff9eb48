-- The invariant of `row::page_row`: the row is that of the words before i.
use mathlib.Core.Path.{◌≡◌}
use lib.ListN.{take}
use Rattle.summary.specs.Summary.{page_row}
use Rattle.summary.specs.Cells.{cells_of}
use Rattle.summary.proofs.row.page_row.Given as goal

abbrev pub invariant-loop-i : goal.invariant-loop-i
invariant-loop-i l = cells_of l.row ≡ page_row (take l.i l.word-items)
