-- `line::decimal_line` meets its contract. Assumes nothing.
use Rattle.text.specs.Lines.{decimal_line_at}
use Rattle.text.proofs.line.decimal_line.Goals as goal

pub returns : goal.returns
unfolding decimal_line_at
returns c = c.keyed.ensures
