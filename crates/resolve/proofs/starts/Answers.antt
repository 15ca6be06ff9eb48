-- `resolve::starts` meets its contract. Assumes nothing.
use native.Mathlib.Omega.{arith}
use Rattle.laws.specs.Laws.Filled.{fill_more, fill_all}
use Rattle.resolve.proofs.InPlace.{own_remainder}
use Rattle.resolve.proofs.starts.Goals as goal

pub loop-i-preserved : goal.loop-i-preserved
loop-i-preserved g c = fill_more c.loop-i.invariant (omega arith) (grind (arith, own_remainder))

pub returns : goal.returns
returns g c = fill_all c.loop-i.invariant (omega arith)
