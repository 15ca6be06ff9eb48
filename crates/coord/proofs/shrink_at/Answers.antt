-- `coord::shrink_at` meets its contract. Assumes nothing.
use borrow.Author.Rules.{rules}
use lib.Ieee.{of_bits}
use Rattle.search.specs.Record.{shrinks}
use Rattle.coord.proofs.shrink_at.Goals as goal

pub returns : goal.returns
unfolding shrinks of_bits
returns c = search rules
