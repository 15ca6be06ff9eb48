-- `tetra::block` meets its contract. The invariant: the places before j are filled. Assumes nothing.
use native.Mathlib.Omega.{arith}
use Rattle.laws.specs.Laws.Filled.{fill_all}
use Rattle.tetra.proofs.block.Goals as goal

pub returns : goal.returns
returns c = fill_all c.loop-j.invariant (omega arith)
