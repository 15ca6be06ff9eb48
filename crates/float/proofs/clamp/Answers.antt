-- `float::clamp` meets its contract: each arm returns what the definition picks where the tests are as the arm found them. Assumes nothing.
use lib.Ieee.{of_bits, neg}
use Rattle.float.specs.Calls.{clamped}
use Rattle.float.proofs.clamp.Goals as goal

pub returns-then-z : goal.returns-then-z
unfolding clamped of_bits neg
returns-then-z c = rw c.if-z.true

pub returns-then-z-2 : goal.returns-then-z-2
unfolding clamped of_bits neg
returns-then-z-2 c = rw (c.if-z.false, c.if-z-2.true)

pub returns : goal.returns
unfolding clamped of_bits neg
returns c = rw (c.if-z.false, c.if-z-2.false)
