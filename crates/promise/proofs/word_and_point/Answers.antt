-- `promise::word_and_point` meets its contract. Assumes nothing.
use Rattle.laws.specs.Words.{tab}
use Rattle.promise.proofs.word_and_point.Goals as goal

pub returns-in-Err-clause-point_value : goal.returns-in-Err-clause-point_value
unfolding tab
returns-in-Err-clause-point_value c = rw c.in-Err.is
