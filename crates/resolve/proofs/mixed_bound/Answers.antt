-- `resolve::mixed_bound` meets its contract: cost and cut are those of the middle. Assumes nothing.
use Rattle.rank.specs.Vector.{middle_cost, middle_cut}
use Rattle.resolve.proofs.Answers.{closed_is, turned-middle}
use Rattle.resolve.proofs.mixed_bound.Goals as goal

pub returns : goal.returns
returns c = closed_is middle_cost middle_cut turned-middle c.mixed_bound.ensures c.closed_of.ensures
