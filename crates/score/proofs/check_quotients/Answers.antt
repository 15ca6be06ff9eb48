-- `score::check_quotients` meets its contract: 4 where the test strikes. Assumes nothing.
use Rattle.std.proofs.Common.{sym, ap, ◌∙◌}
use Rattle.std.specs.Float.Ieee.{of_bits}
use Rattle.float.specs.Calls.{million64}
use Rattle.score.specs.Samples.{exceeds, some}
use Rattle.score.proofs.check_quotients.Goals as goal

pub returns-then-some_exceeds : goal.returns-then-some_exceeds
unfolding of_bits
returns-then-some_exceeds c =
    let q = sym (c.some_exceeds.ensures ∙ ap (some (exceeds million64)) c.quotients.ensures) ∙ c.if-some_exceeds.true in
    rw q

pub returns : goal.returns
unfolding of_bits
returns c =
    let q = sym (c.some_exceeds.ensures ∙ ap (some (exceeds million64)) c.quotients.ensures) ∙ c.if-some_exceeds.false in
    rw q
