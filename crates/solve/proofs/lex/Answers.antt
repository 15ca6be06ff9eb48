-- `solve::lex` meets its contract, by the law of the nibbles. Assumes nothing.
use Rattle.solve.proofs.Nibbles.{nibbles}
use mathlib.Core.Path.{◌∙◌}
use Rattle.solve.proofs.lex.Goals as goal

pub returns : goal.returns
returns c = c.swap_bytes.ensures ∙ nibbles c.args.key
