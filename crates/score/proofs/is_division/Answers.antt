-- `score::is_division` meets its contract. Assumes nothing.
use mathlib.Core.Path.{refl}
use lib.Ieee.{of_bits}
use Rattle.score.proofs.is_division.Goals as goal

pub returns : goal.returns
unfolding of_bits
returns c = refl
