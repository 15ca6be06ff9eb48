-- `shown::counts_at`: the block is a part of the counts as it is. Assumes nothing.
use mathlib.Core.Path.{◌∙◌}
use Rattle.tetra.specs.Block.{block-part}
use Rattle.shown.proofs.counts_at.Goals as goal

pub returns : goal.returns
returns c = c.block.ensures ∙ block-part _ _ c.requires
