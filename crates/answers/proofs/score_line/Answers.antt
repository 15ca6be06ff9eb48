-- `score_line` meets its contract. Assumes nothing.
use Rattle.std.proofs.Common.{◌∙◌, lit≤, append_assoc}
use Rattle.refusal.proofs.Apart.{never_zero}
use Rattle.text.specs.Text.{bytes}
use Rattle.text.specs.Doubles.{bits_shown}
use Rattle.text.specs.Laws.Printed.{said-none, said-text, said-hex}
use Rattle.answers.specs.Answers.{score_line}
use Rattle.answers.proofs.score_line.Goals as goal

pub returns-in-Err : goal.returns-in-Err
unfolding score_line
returns-in-Err c = rw (c.in-Err.is, never_zero c.in-Err.r, ← c.number.ensures) c.refused.ensures

pub returns : goal.returns
unfolding score_line
returns c =
    let l1 = said-text (said-none c.new-line.ensures) (bytes "score=") (lit≤ tt) c.put.ensures in
    let l2 = said-hex l1 16 (bits_shown c.in-Ok.t) (lit≤ tt) c.put_double.ensures in
    let l3 = said-text l2 (bytes "\n") (lit≤ tt) c.put-2.ensures in
    rw c.in-Ok.is (l3.is ∙ simp append_assoc)
