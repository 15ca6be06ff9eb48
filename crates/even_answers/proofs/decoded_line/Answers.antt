-- `even_answers::decoded_line` meets its contract. Assumes nothing.
use Rattle.refusal.proofs.Apart.{never_zero}
use Rattle.even_answers.specs.EvenAnswers.{decoded_line}
use Rattle.even_answers.proofs.decoded_line.Goals as goal

pub returns-in-Ok : goal.returns-in-Ok
unfolding decoded_line
returns-in-Ok c = rw c.in-Ok.is c.point_line.ensures

pub returns-in-Err : goal.returns-in-Err
unfolding decoded_line
returns-in-Err c = rw (c.in-Err.is, never_zero c.in-Err.r, ← c.number.ensures) c.refused.ensures
