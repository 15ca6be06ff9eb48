-- `refused_at` meets its contract: a number has at most ten digits. Assumes nothing.
use Rattle.std.proofs.Common.{◌∙◌, lit≤, arith, append_assoc, eq-eqb, ne_eqb}
use Rattle.text.specs.Text.{bytes, decimal}
use Rattle.text.specs.Laws.Text.{decimal-fits}
use Rattle.text.specs.Laws.Printed.{said-none, said-text, said-more, said-line}
use Rattle.answers.specs.Answers.{refused_point}
use Rattle.answers.proofs.refused_at.Goals as goal

pub returns-then-section-eq0 : goal.returns-then-section-eq0
unfolding refused_point
returns-then-section-eq0 c = rw (eq-eqb _ _ c.if-section-eq0.true) c.refused.ensures

pub returns : goal.returns
unfolding refused_point
returns c =
    let n = c.args.number in
    let s = c.args.section in
    let l1 = said-text (said-none c.new-line.ensures) (bytes "refused=") (lit≤ tt) c.put.ensures in
    let l2 = said-more l1 (decimal n) 10 (decimal-fits 9 n (omega arith)) (lit≤ tt) c.put_decimal.ensures in
    let l3 = said-line l2 (bytes " section=") 9 s (omega arith) (lit≤ tt) c.put_line.ensures in
    rw (ne_eqb _ _ c.if-section-eq0.false) (l3.is ∙ simp append_assoc)
