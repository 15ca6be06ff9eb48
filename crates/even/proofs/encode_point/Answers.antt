-- `even::encode_point` meets its contract: the refusal, and the full coder's answer. Assumes nothing.
use mathlib.Core.Path.{sym, ◌∙◌}
use Rattle.even.specs.Even.{even_encoded}
use Rattle.even.proofs.encode_point.Goals as goal

pub returns-then-one_parity : goal.returns-then-one_parity
unfolding even_encoded
returns-then-one_parity c = rw (sym c.one_parity.ensures ∙ c.if-one_parity.true)

pub returns : goal.returns
unfolding even_encoded
returns c = rw (sym c.one_parity.ensures ∙ c.if-one_parity.false) c.encode.ensures
