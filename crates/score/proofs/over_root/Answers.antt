-- `score::over_root` meets its contract. Assumes nothing.
use lib.Ieee.{of_bits, neg, div}
use Rattle.score.proofs.over_root.Goals as goal

pub returns : goal.returns
unfolding of_bits neg div
returns c = rw c.if-nn.false
