-- `encoder::trio` meets its contract. Assumes nothing.
use native.Mathlib.Omega.{arith}
use Rattle.laws.specs.Laws.Filled.{fill_all}
use Rattle.trellis.specs.Laws.Trio.{trio-fits}
use Rattle.encoder.proofs.trio.Goals as goal

pub offset_bounds-t-i : goal.offset_bounds-t-i
offset_bounds-t-i c = omega (arith, c.order-i.ensures, (trio-fits c.loop-j.j (omega arith)).order_lt)

pub bounds-t-i : goal.bounds-t-i
bounds-t-i c = omega (arith, c.order-i.ensures, (trio-fits c.loop-j.j (omega arith)).order_lt)

pub returns : goal.returns
returns c = fill_all c.loop-j.invariant (omega arith)
