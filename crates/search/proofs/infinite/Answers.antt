-- `search::infinite` meets its contract: the quotient is the infinity. Assumes nothing.
use mathlib.Core.Path.{refl}
use lib.Ieee.{of_bits, div}
use Rattle.search.proofs.infinite.Goals as goal

pub returns : goal.returns
unfolding of_bits div
returns c = refl
