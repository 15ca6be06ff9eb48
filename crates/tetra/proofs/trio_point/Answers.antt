-- `tetra::trio_point`: three sections, each with its byte and its row. Assumes nothing.
use mathlib.Core.Path.{◌∙◌}
use Rattle.tetra.proofs.Decoding.{laid}
use Rattle.tetra.proofs.trio_point.Goals as goal

pub returns : goal.returns
returns c =
    c.three.ensures
    ∙ laid c.args.f c.requires c.middle_row-m.ensures.0 c.prefix-c1.ensures c.branch-e.ensures c.suffix-c3.ensures
    c.section_at-y1.ensures c.section_at-y2.ensures c.section_at-y3.ensures
