-- `code_text` meets its contract: piece by piece. Assumes nothing.
use Rattle.std.proofs.Common.{◌∙◌, lit≤, append_assoc}
use Rattle.text.specs.Text.{bytes, listed}
use Rattle.text.specs.Doubles.{bits_shown}
use Rattle.text.specs.Laws.Printed.{said-none, said-text, said-hex, said-more}
use Rattle.answers.specs.Answers.{code_line}
use Rattle.answers.proofs.code_text.Goals as goal

pub returns : goal.returns
unfolding code_line
returns c =
    let a = c.args.c in
    let y = listed a.point in
    let l1 = said-text (said-none c.new-line.ensures) (bytes "word=") (lit≤ tt) c.put.ensures in
    let l2 = said-hex l1 12 a.word (lit≤ tt) c.put_hex.ensures in
    let l3 = said-text l2 (bytes " score=") (lit≤ tt) c.put-2.ensures in
    let l4 = said-hex l3 16 (bits_shown a.score) (lit≤ tt) c.put_double.ensures in
    let l5 = said-text l4 (bytes " point=") (lit≤ tt) c.put-3.ensures in
    let l6 = said-more l5 y 288 c.put_list.ensures.most (lit≤ tt) c.put_list.ensures.after in
    let l7 = said-text l6 (bytes "\n") (lit≤ tt) c.put-4.ensures in
    l7.is ∙ simp append_assoc
