-- The columns of the code are those of the definition.
use Rattle.trellis.specs.Code.{columns}
use Rattle.trellis.proofs.codeword.Goals as goal

pub returns : goal.returns
unfolding columns
returns c = c.combine.ensures
