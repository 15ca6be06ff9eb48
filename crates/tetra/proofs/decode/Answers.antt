-- `tetra::decode`. Assumes nothing.
use mathlib.Core.Path.{ap, ◌∙◌}
use Rattle.tetra.specs.Tetra.{natural, point_of}
use Rattle.tetra.proofs.decode.Goals as goal

pub returns : goal.returns
unfolding point_of
returns c = c.to_natural.ensures ∙ ap natural c.decode_trio_order.ensures
