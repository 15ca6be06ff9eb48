-- `yultarvas::yultarvas_environment` meets its contract. Assumes nothing.
use mathlib.Core.Path.{sym, ◌∙◌}
use Rattle.yultarvas.specs.Environment.{environment_of}
use Rattle.yultarvas.proofs.yultarvas_environment.Goals as goal

pub returns-then-keeps_subnormals : goal.returns-then-keeps_subnormals
unfolding environment_of
returns-then-keeps_subnormals c =
    rw (sym c.rounds_to_even.ensures ∙ c.if-rounds_to_even.true, sym c.keeps_subnormals.ensures ∙ c.if-keeps_subnormals.true)

pub returns-then-rounds_to_even : goal.returns-then-rounds_to_even
unfolding environment_of
returns-then-rounds_to_even c =
    rw (sym c.rounds_to_even.ensures ∙ c.if-rounds_to_even.true, sym c.keeps_subnormals.ensures ∙ c.if-keeps_subnormals.false)

pub returns : goal.returns
unfolding environment_of
returns c = rw (sym c.rounds_to_even.ensures ∙ c.if-rounds_to_even.false)
