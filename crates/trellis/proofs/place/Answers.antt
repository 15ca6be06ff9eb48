-- The table is the places of the coordinates in trio order, computed from the octads.
use Rattle.laws.specs.Words.{tab}
use Rattle.trellis.specs.Trio.{order, places}
use Rattle.trellis.proofs.place.Goals as goal

pub returns : goal.returns
unfolding order places tab
returns c = c.number_at.ensures
