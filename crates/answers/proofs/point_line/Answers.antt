-- `point_line` meets its contract. Assumes nothing.
use Rattle.std.proofs.Common.{◌∙◌, lit≤, append_assoc}
use Rattle.text.specs.Text.{bytes, listed}
use Rattle.text.specs.Laws.Printed.{said-none, said-text, said-more}
use Rattle.answers.specs.Answers.{point_line}
use Rattle.answers.proofs.point_line.Goals as goal

pub returns : goal.returns
unfolding point_line
returns c =
    let y = listed c.args.y in
    let l1 = said-text (said-none c.new-line.ensures) (bytes "point=") (lit≤ tt) c.put.ensures in
    let l2 = said-more l1 y 288 c.put_list.ensures.most (lit≤ tt) c.put_list.ensures.after in
    let l3 = said-text l2 (bytes "\n") (lit≤ tt) c.put-2.ensures in
    l3.is ∙ simp append_assoc
