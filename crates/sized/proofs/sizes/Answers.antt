-- `sizes` meets its contract: what it prints follows from what `summarise` answers and leaves. Assumes nothing.
use Rattle.std.proofs.Common.{Ok, Err, refl, ◌∙◌, ◌≤◌, lit≤, arith}
use Rattle.refusal.specs.Refusal.{number_of}
use Rattle.refusal.specs.Laws.{never_0, number-le}
use Rattle.summary.specs.Answer.{summed_by}
use Rattle.text.specs.Text.{bytes, refused_text}
use Rattle.text.specs.Laws.Printed.{said-none, said-line}
use Rattle.sized.proofs.Printing.{prints_refused, few, prints_summary}
use Rattle.sized.proofs.sizes.Goals as goal
use Rattle.sized.proofs.sizes.Goals.{In-Ok}

-- a page has few blocks
blocks : (c : In-Ok) → c.in-Ok.count ≤ 64
blocks c = few _ (summed_by (Ok c.in-Ok.count)) _ c.in-Ok.ensures.value (omega arith)

-- a refusal's number has at most ten digits
pub returns-in-Err : goal.returns-in-Err
unfolding refused_text
returns-in-Err c =
    let r = c.in-Err.refusal in
    let y = rw c.number.ensures at c.put_line.ensures in
    (said-line (said-none c.new-line.ensures) (bytes "refused=") 9 (number_of r) (omega (arith, number-le r)) (lit≤ tt) y).is
    ∙ prints_refused _ (summed_by (Err r)) _ c.in-Err.ensures.value (omega arith) (never_0 r)

pub summary_text-requires : goal.summary_text-requires
summary_text-requires c =
    let b = blocks (goal.at.summary_text-requires c).In-Ok in
    (b, omega (arith, b, c.summarise.auto.rows))

pub returns : goal.returns
returns c =
    c.summary_text.ensures ∙ prints_summary _ (summed_by (Ok c.in-Ok.count)) _ _ c.in-Ok.ensures.value c.summarise.ensures.rows_after (omega arith) refl
