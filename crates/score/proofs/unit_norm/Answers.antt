-- `score::unit_norm` meets its contract. Assumes nothing.
use mathlib.Core.Path.{ap, ap₂, ◌∙◌}
use lib.Ieee.{Float, of_bits}
use Rattle.root.specs.Root.{Rooted, rooted}
use Rattle.root.specs.Nearest.{root_or_zero}
use Rattle.score.specs.Score.{dot_of}
use Rattle.score.specs.Scale.{unit_norm}
use Rattle.score.proofs.unit_norm.Goals as goal

pub returns : goal.returns
unfolding unit_norm of_bits
returns c =
    let q = c.quotients-q.ensures in
    c.unwrap_or.ensures ∙ root_or_zero c.root.result ∙ ap (λ (r : Rooted). r.root) c.root.ensures ∙ ap (λ (d : Float). (rooted d).root) (c.dot.ensures ∙ ap₂ dot_of q q)
