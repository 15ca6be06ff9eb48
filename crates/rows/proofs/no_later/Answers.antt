-- `rows::no_later` meets its contract: packed ranks are below 16, so the bound accepts them. Assumes nothing.
use mathlib.Core.Path.{ap, ◌∙◌}
use Rattle.rank.specs.Vector.{unpack}
use Rattle.rank.specs.Answers.{Held, held_of}
use Rattle.rank.specs.Laws.Vector.{unpack-below, held-accepted, held_or_not}
use Rattle.rows.proofs.no_later.Goals as goal

pub returns : goal.returns
returns c =
    let a = c.args in
    c.unwrap_or.ensures ∙ held_or_not c.contains.result
    ∙ ap (λ (h : Held). h.held) (c.contains.ensures ∙ ap (held_of a.last.cost a.last.cut) c.unpack.ensures)
    ∙ held-accepted a.last.cost a.last.cut (unpack 8 a.x) (unpack-below 8 a.x)
