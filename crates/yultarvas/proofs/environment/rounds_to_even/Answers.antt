-- `environment::rounds_to_even` meets its contract. Assumes nothing.
use lib.Ieee.{of_bits}
use Rattle.yultarvas.proofs.environment.rounds_to_even.Goals as goal

pub returns-then-one : goal.returns-then-one
unfolding of_bits
returns-then-one c = rw c.if-one.true

pub returns : goal.returns
unfolding of_bits
returns c = rw c.if-one.false
