-- `yultarvas::slices::point_of`: the block at the start is a part of the slice as it is. Assumes nothing.
use mathlib.Core.Path.{◌∙◌}
use Rattle.tetra.specs.Block.{block-part}
use Rattle.yultarvas.proofs.slices.point_of.Goals as goal

pub returns : goal.returns
returns c = c.block.ensures ∙ block-part c.args.s.now 0 c.requires
