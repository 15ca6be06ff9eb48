-- `score::second_scale` meets its contract: 1.14 by its bits. Assumes nothing.
use mathlib.Core.Path.{refl}
use lib.Ieee.{of_bits}
use Rattle.score.proofs.second_scale.Goals as goal

pub returns : goal.returns
unfolding of_bits
returns c = refl
