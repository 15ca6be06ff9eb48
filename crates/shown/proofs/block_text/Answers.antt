-- `block_text` meets its contract: a line and three pieces, one behind the other. Assumes nothing.
use Rattle.std.proofs.Common.{◌∙◌, lit≤, arith, append_assoc}
use Rattle.text.specs.Text.{bytes, listed}
use Rattle.text.specs.Laws.Printed.{said-none, said-text, said-line, said-more}
use Rattle.shown.specs.Shown.{block_text}
use Rattle.shown.proofs.block_text.Goals as goal

-- an index has at most twenty digits
pub returns : goal.returns
unfolding block_text
returns c =
    let a = c.args in
    let l1 = said-line (said-none c.new-lines.ensures) (bytes "block=") 19 a.index (omega (arith, c.ranges.index)) (lit≤ tt) c.put_line.ensures in
    let l2 = said-text l1 (bytes "counts=") (lit≤ tt) c.put.ensures in
    let l3 = said-more l2 (listed a.counts) 288 c.put_list.ensures.most (lit≤ tt) c.put_list.ensures.after in
    let l4 = said-text l3 (bytes "\n") (lit≤ tt) c.put-2.ensures in
    l4.is ∙ simp append_assoc
