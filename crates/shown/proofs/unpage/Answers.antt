-- `unpage` meets its contract: what it prints follows from what `read` answers and leaves. Assumes nothing.
use Rattle.std.proofs.Common.{Ok, Err, refl, ◌∙◌, ◌≤◌, lit≤, arith}
use Rattle.refusal.specs.Refusal.{number_of}
use Rattle.refusal.specs.Laws.{never_0, number-le}
use Rattle.page.specs.Answer.{read_by}
use Rattle.text.specs.Text.{bytes, refused_text}
use Rattle.text.specs.Laws.Printed.{said-none, said-line}
use Rattle.shown.proofs.Printing.{prints_refused, few, prints_blocks}
use Rattle.shown.proofs.unpage.Goals as goal
use Rattle.shown.proofs.unpage.Goals.{In-Ok}

-- a page has few blocks
blocks : (c : In-Ok) → c.in-Ok.count ≤ 64
blocks c = few _ (read_by (Ok c.in-Ok.count)) _ c.in-Ok.ensures.value (omega arith)

-- a refusal's number has at most ten digits
pub returns-in-Err : goal.returns-in-Err
unfolding refused_text
returns-in-Err c =
    let r = c.in-Err.refusal in
    let y = rw c.number.ensures at c.put_line.ensures in
    (said-line (said-none c.new-line.ensures) (bytes "refused=") 9 (number_of r) (omega (arith, number-le r)) (lit≤ tt) y).is
    ∙ prints_refused _ (read_by (Err r)) _ c.in-Err.ensures.value (omega arith) (never_0 r)

pub block_texts-requires : goal.block_texts-requires
block_texts-requires c =
    let b = blocks (goal.at.block_texts-requires c).In-Ok in
    (omega (arith, b, c.read.auto.out), b)

pub returns : goal.returns
returns c =
    c.block_texts.ensures ∙ prints_blocks _ (read_by (Ok c.in-Ok.count)) _ _ c.in-Ok.ensures.value c.read.ensures.out_after (omega arith) refl
