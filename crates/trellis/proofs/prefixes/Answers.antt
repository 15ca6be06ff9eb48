-- `trellis::prefixes` meets its contract: the constant is the list of pairs. Assumes nothing.
use mathlib.Core.Path.{refl}
use Rattle.laws.specs.Words.{tab}
use Rattle.trellis.specs.Tables.{prefixes}
use Rattle.trellis.specs.Trellis.{pairs_of}
use Rattle.trellis.proofs.prefixes.Goals as goal

pub returns : goal.returns
unfolding pairs_of tab prefixes
returns c = refl
