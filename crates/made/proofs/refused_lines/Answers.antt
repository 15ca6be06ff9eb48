-- `refused_lines` meets its contract: one line, or two, one behind the other. Assumes nothing.
use Rattle.std.proofs.Common.{◌≡◌, sym, ◌∙◌, true, false, lit≤, append-nil, arith}
use Rattle.refusal.specs.Refusal.{number_of}
use Rattle.refusal.specs.Laws.{number-le}
use Rattle.text.specs.Text.{bytes, refused_text}
use Rattle.text.specs.Laws.Printed.{Said, said-none, said-line}
use Rattle.made.specs.Made.{names_block, refused_lines}
use Rattle.made.proofs.refused_lines.Goals as goal
use Rattle.made.proofs.refused_lines.Goals.{After-put_line}

-- the first line: a number has at most ten digits
first : (c : After-put_line) → Said c.put_line.new.self 19 (refused_text (number_of c.args.why.refusal))
unfolding refused_text
first c =
    let r = c.args.why.refusal in
    let y = rw c.number.ensures at c.put_line.ensures in
    said-line (said-none c.new-lines.ensures) (bytes "refused=") 9 (number_of r) (omega (arith, number-le r)) (lit≤ tt) y

pub returns-then-names_block : goal.returns-then-names_block
unfolding refused_lines
returns-then-names_block c =
    let e : names_block (number_of c.args.why.refusal) ≡ true = sym c.names_block.ensures ∙ c.if-names_block.true in
    let l1 = first (goal.at.returns-then-names_block c).After-put_line in
    let l2 = said-line l1 (bytes "block=") 19 c.args.why.block (omega arith) (lit≤ tt) c.put_line-then-names_block.ensures in
    rw e l2.is

pub returns-else-names_block : goal.returns-else-names_block
unfolding refused_lines
returns-else-names_block c =
    let e : names_block (number_of c.args.why.refusal) ≡ false = sym c.names_block.ensures ∙ c.if-names_block.false in
    let l1 = first (goal.at.returns-else-names_block c).After-put_line in
    rw e (l1.is ∙ sym (append-nil (refused_text (number_of c.args.why.refusal))))
