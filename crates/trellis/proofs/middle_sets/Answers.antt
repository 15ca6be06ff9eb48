-- The first bytes of the sets, added to the middle bytes of state 0.
use mathlib.Core.Path.{◌∙◌}
use Rattle.laws.specs.Words.{tab}
use Rattle.trellis.specs.Tables.{middles}
use Rattle.trellis.specs.Laws.Rows.{zero_middles, set_firsts, middle_sets_lem}
use Rattle.trellis.proofs.middle_sets.Goals as goal

pub returns : goal.returns
unfolding zero_middles set_firsts tab middles
returns c = c.sums.ensures ∙ middle_sets_lem
