-- `yultarvas::yultarvas_add_word` meets its contract. Assumes nothing.
use mathlib.Core.Path.{◌∙◌}
use Prim.Native.Nat.{◌+◌}
use lib.ListN.{length}
use Rattle.page.specs.Answer.{words_in}
use Rattle.page.specs.Reader.{reading_of}
use Rattle.summary.specs.Answer.{added, add_number}
use Rattle.yultarvas.proofs.Counts.{summed_cell}
use Rattle.yultarvas.proofs.yultarvas_add_word.Goals as goal

pub returns : goal.returns
unfolding added
returns c =
    let a = c.args in
    let s = c.add in
    let R = reading_of a.text.now in
    let p = summed_cell s.result (add_number R a.rows.now) (length (words_in R) + 1) _ a.blocks.now s.ensures.value c.put_count.ensures.value in
    record { value = p.0; rows_after = s.ensures.rows_after; blocks_after = c.put_count.ensures.cell_after ∙ p.1 }
