-- `root::root_digits` meets its contract: each turn finds one digit more. Assumes nothing.
use native.Mathlib.Omega.{arith}
use Rattle.root.proofs.Loops.{upto_next, size_now}
use Rattle.root.proofs.root_digits.Goals as goal

pub next_digit-s-requires : goal.next_digit-s-requires
next_digit-s-requires c = (size_now c.loop-i.invariant, c.loop-i.invariant.low, omega arith)

pub loop-i-preserved : goal.loop-i-preserved
loop-i-preserved c = upto_next c.loop-i.invariant c.loop-i-test.true c.next_digit-s.ensures
