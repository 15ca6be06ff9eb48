-- `block_text` meets its contract: the line of the index, of at most two digits, and the row. Assumes nothing.
use Rattle.std.proofs.Common.{lit≤, arith}
use Rattle.text.specs.Text.{bytes}
use Rattle.text.specs.Laws.Printed.{said-none, said-line, said-more}
use Rattle.sized.specs.Sized.{block_text}
use Rattle.sized.proofs.block_text.Goals as goal

pub returns : goal.returns
unfolding block_text
returns c =
    let l1 = said-line (said-none c.new-lines.ensures) (bytes "block=") 1 c.args.index (omega (arith, c.requires.1)) (lit≤ tt) c.put_line.ensures in
    let l2 = said-more l1 c.as_slice.result.now 73 c.as_slice.ensures.fits (lit≤ tt) c.put.ensures in
    rw (← c.row_text.ensures, ← c.as_slice.ensures.value) l2.is
