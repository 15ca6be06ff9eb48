-- `rows::rows` meets its contract: the constant is the list `rows`. Assumes nothing.
use mathlib.Core.Path.{refl}
use Rattle.rows.specs.Rows.{rows}
use Rattle.rows.proofs.rows.Goals as goal

pub returns : goal.returns
unfolding rows
returns c = refl
