-- `refused` meets its contract: a number has at most ten digits. Assumes nothing.
use Rattle.std.proofs.Common.{lit≤, arith}
use Rattle.text.specs.Text.{bytes, refused_text}
use Rattle.text.specs.Laws.Printed.{said-none, said-line}
use Rattle.answers.proofs.refused.Goals as goal

pub returns : goal.returns
unfolding refused_text
returns c =
    (said-line (said-none c.new-line.ensures) (bytes "refused=") 9 c.args.number (omega (arith, c.ranges.number)) (lit≤ tt) c.put_line.ensures).is
