-- `yultarvas_even_read_page` meets its contract. Assumes nothing.
use mathlib.Core.Path.{◌∙◌}
use lib.ListN.{length}
use Rattle.even.specs.Even.{even_read}
use Rattle.page.specs.Reader.{reading_of}
use Rattle.yultarvas.proofs.Counts.{read_cell}
use Rattle.yultarvas.proofs.profile.yultarvas_even_read_page.Goals as goal

pub returns : goal.returns
returns c =
    let a = c.args in
    let r = c.read_page in
    let p = read_cell r.result (even_read (reading_of a.text.now) (length a.counts.now)) _ a.blocks.now r.ensures.value c.put_count.ensures.value in
    record { value = p.0; counts_after = r.ensures.out_after; blocks_after = c.put_count.ensures.cell_after ∙ p.1 }
