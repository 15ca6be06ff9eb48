-- `resolve::close` meets its contract. The invariant: the first i entries are closed. Assumes nothing.
use native.Mathlib.Omega.{arith}
use Rattle.laws.specs.Laws.Filled.{fill_all}
use Rattle.resolve.proofs.InPlace.{close_none, close_more}
use Rattle.resolve.proofs.close.Goals as goal

pub loop-i-init : goal.loop-i-init
loop-i-init g c = close_none (omega arith)

pub loop-i-preserved : goal.loop-i-preserved
loop-i-preserved g c = close_more c.loop-i.invariant (omega arith) c.closed.ensures

pub returns : goal.returns
returns g c = fill_all c.loop-i.invariant.made (omega arith)
