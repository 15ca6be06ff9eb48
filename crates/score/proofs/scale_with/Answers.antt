-- `score::scale_with` meets its contract: 0.3218 and the root of 24 by their bits. Assumes nothing.
use mathlib.Core.Path.{sym, ap}
use lib.Ieee.{Float, binary64, of_bits, mul, div}
use Rattle.score.specs.Scale.{alpha64}
use Rattle.score.specs.Laws.Scale.{root24_is}
use Rattle.score.proofs.scale_with.Goals as goal

pub returns : goal.returns
unfolding of_bits
returns c = ap (λ (r : Float). div binary64 (mul binary64 (mul binary64 alpha64 c.args.m) c.args.n) r) (sym root24_is)
