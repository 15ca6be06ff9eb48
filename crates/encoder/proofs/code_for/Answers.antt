-- `encoder::code_for` meets its contract: what its calls answer. Assumes nothing.
use mathlib.Core.Path.{ap, ◌∙◌}
use Rattle.search.specs.Parity.{parities_of}
use Rattle.search.specs.Block.{winner_for}
use Rattle.encoder.specs.Encode.{code_of, code_for}
use Rattle.encoder.proofs.code_for.Goals as goal

pub returns : goal.returns
unfolding code_for
returns c =
    let a = c.args in
    c.code_of.ensures
    ∙ ap (code_of a.samples) (c.winner_for.ensures ∙ ap (winner_for (parities_of a.odd) a.setting) c.quotients.ensures)
