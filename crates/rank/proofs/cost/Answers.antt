-- `rank::cost`. Assumes nothing.
use mathlib.Core.Path.{refl, sym, ◌∙◌}
use Rattle.rank.specs.Answers.{costed_of}
use Rattle.rank.proofs.cost.Goals as goal

pub returns-then-all_below : goal.returns-then-all_below
unfolding costed_of
returns-then-all_below c = rw (sym c.all_below.ensures ∙ c.if-all_below.true, c.weigh.ensures)

pub returns-else-all_below : goal.returns-else-all_below
unfolding costed_of
returns-else-all_below c = rw (sym c.all_below.ensures ∙ c.if-all_below.false) refl
