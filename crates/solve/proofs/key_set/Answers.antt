-- `solve::key_set` meets its contract. The code is the definition, its shifts made by `nibble`. Assumes nothing.
use Rattle.search.specs.Base.{key_set}
use Rattle.solve.proofs.key_set.Goals as goal

pub returns : goal.returns
unfolding key_set
returns c = rw (c.nibble.ensures, c.nibble-2.ensures)
