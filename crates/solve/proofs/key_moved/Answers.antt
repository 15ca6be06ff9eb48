-- `solve::key_moved` meets its contract. The code is the definition, its shifts made by `nibble`. Assumes nothing.
use Rattle.search.specs.Solve.{key_moved}
use Rattle.solve.proofs.key_moved.Goals as goal

pub returns : goal.returns
unfolding key_moved
returns c =
    rw (c.nibble.ensures, c.nibble-2.ensures, c.nibble-3.ensures, c.nibble-4.ensures)
