-- `yultarvas::yultarvas_summarise` meets its contract. Assumes nothing.
use mathlib.Core.Path.{◌∙◌}
use lib.ListN.{length}
use Rattle.page.specs.Answer.{words_in}
use Rattle.page.specs.Reader.{reading_of}
use Rattle.summary.specs.Answer.{summarised, summarise_number}
use Rattle.yultarvas.proofs.Counts.{summed_cell}
use Rattle.yultarvas.proofs.yultarvas_summarise.Goals as goal

pub returns : goal.returns
unfolding summarised
returns c =
    let a = c.args in
    let s = c.summarise in
    let R = reading_of a.text.now in
    let p = summed_cell s.result (summarise_number R (length a.rows.now)) (length (words_in R)) _ a.blocks.now s.ensures.value c.put_count.ensures.value in
    record { value = p.0; rows_after = s.ensures.rows_after; blocks_after = c.put_count.ensures.cell_after ∙ p.1 }
