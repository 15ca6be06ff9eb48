-- The table is trio order, computed from the octads.
use Rattle.trellis.specs.Trio.{order}
use Rattle.trellis.proofs.order.Goals as goal

pub returns : goal.returns
unfolding order
returns c = c.number_at.ensures
