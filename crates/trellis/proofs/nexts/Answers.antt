-- The states of the first eight branches out of state 0, added to those of all sixteen.
use mathlib.Core.Path.{◌∙◌}
use Rattle.trellis.specs.Tables.{nexts}
use Rattle.trellis.proofs.Rows.{zero_nexts, zero_first, first_nexts_lem}
use Rattle.trellis.proofs.nexts.Goals as goal

pub returns : goal.returns
unfolding zero_nexts zero_first nexts
returns c = c.sums.ensures ∙ first_nexts_lem
