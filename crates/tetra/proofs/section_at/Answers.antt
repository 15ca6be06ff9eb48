-- `tetra::section_at`: no rank of a row is above 4. Assumes nothing.
use Rattle.rows.specs.Table.{row_ranks}
use Rattle.tetra.specs.Laws.Point.{row_small}
use Rattle.tetra.proofs.section_at.Goals as goal

pub section_of-requires : goal.section_of-requires
unfolding row_ranks
section_of-requires c =
    let i = c.args.i in
    (c.requires.0, rw (c.unpack.ensures, c.row.ensures) (row_small i c.requires.1))

pub returns : goal.returns
unfolding row_ranks
returns c = rw (c.section_of.ensures, c.unpack.ensures, c.row.ensures)
