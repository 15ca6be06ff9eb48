-- `encoder::section` meets its contract. Assumes nothing.
use native.Mathlib.Omega.{arith}
use Rattle.laws.specs.Laws.Filled.{fill_all}
use Rattle.encoder.proofs.section.Goals as goal

pub returns : goal.returns
returns c = fill_all c.loop-j.invariant (omega arith)
