-- The invariant of `row::block_row`: the three numbers are those of the coordinates that the loop is past.
use mathlib.Core.Path.{◌≡◌}
use lib.IntN.{pos}
use lib.ListN.{get_or, take}
use Rattle.laws.specs.Words.{norm}
use Rattle.summary.specs.Summary.{larger, smaller, taken}
use Rattle.summary.proofs.row.block_row.Given as goal

abbrev pub invariant-loop-y : goal.invariant-loop-y
invariant-loop-y l =
    (l.sum ≡ pos (norm (take l.y-index l.y-items)))
    × (l.largest ≡ taken larger (get_or l.y-items 0 (pos 0)) (take l.y-index l.y-items))
    × (l.smallest ≡ taken smaller (get_or l.y-items 0 (pos 0)) (take l.y-index l.y-items))
