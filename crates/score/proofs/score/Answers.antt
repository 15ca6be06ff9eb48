-- `score::score` meets its contract. Assumes nothing.
use mathlib.Core.Path.{ap, ap₂, ◌∙◌}
use Rattle.score.specs.Score.{dot_of, score_of, t_of}
use Rattle.score.proofs.score.Goals as goal

pub returns : goal.returns
unfolding t_of
returns c =
    let x = c.args.samples in
    let y = c.doubles-y.ensures in
    c.over_root.ensures ∙ ap₂ score_of (c.dot.ensures ∙ ap (dot_of x) y) (c.dot-2.ensures ∙ ap₂ dot_of y y)
