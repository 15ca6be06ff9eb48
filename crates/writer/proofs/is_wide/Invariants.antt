-- The invariant of `writer::is_wide`: one of all samples is beyond where one of those left is. Assumes nothing.
use mathlib.Core.Path.{◌≡◌}
use lib.ListN.{drop}
use Rattle.writer.specs.Writer.{is_wide}
use Rattle.writer.proofs.is_wide.Given as goal

abbrev pub invariant-loop-x : goal.invariant-loop-x
invariant-loop-x l = is_wide l.x-items ≡ is_wide (drop l.x-index l.x-items)
