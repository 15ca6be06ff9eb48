-- `rank::rank_class`. Assumes nothing.
use mathlib.Core.Path.{refl, sym, ◌∙◌}
use Rattle.rank.specs.Answers.{classed_of}
use Rattle.rank.proofs.rank_class.Goals as goal

pub returns-then-all_below : goal.returns-then-all_below
unfolding classed_of
returns-then-all_below c = rw (sym c.all_below.ensures ∙ c.if-all_below.true, c.sum_of_k.ensures)

pub returns-else-all_below : goal.returns-else-all_below
unfolding classed_of
returns-else-all_below c = rw (sym c.all_below.ensures ∙ c.if-all_below.false) refl
