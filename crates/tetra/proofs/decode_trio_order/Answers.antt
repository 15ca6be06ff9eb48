-- `tetra::decode_trio_order`: the fields of a word fit. Assumes nothing.
use mathlib.Core.Path.{ap, ◌∙◌}
use Rattle.word.specs.Laws.{split-narrow}
use Rattle.tetra.specs.Tetra.{trio_point, trio_point_of}
use Rattle.tetra.proofs.decode_trio_order.Goals as goal

pub trio_point-requires : goal.trio_point-requires
trio_point-requires c = rw c.split.ensures (split-narrow c.args.word)

pub returns : goal.returns
unfolding trio_point_of
returns c = c.trio_point.ensures ∙ ap trio_point c.split.ensures
