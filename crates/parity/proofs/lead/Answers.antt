-- `parity::lead` meets its contract: the path is that of the join. Assumes nothing.
use mathlib.Core.Path.{ap}
use Rattle.parity.specs.Inner.{head_by, head_of}
use Rattle.parity.proofs.lead.Goals as goal

pub returns : goal.returns
unfolding head_of
returns c = ap (head_by c.args.sides.now) c.join-w.ensures.0
