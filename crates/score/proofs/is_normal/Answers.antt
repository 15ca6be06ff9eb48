-- `score::is_normal` meets its contract. Assumes nothing.
use mathlib.Core.Path.{◌≡◌, sym, ap, ◌∙◌}
use mathlib.Core.Bool.{Bool, true, ◌&&◌}
use lib.Ieee.{of_bits, le}
use lib.Ieee.Scale.{finite}
use Rattle.float.specs.Calls.{abs_of}
use Rattle.score.specs.Scale.{least_normal64}
use Rattle.score.proofs.is_normal.Goals as goal

pub returns-then-is_finite : goal.returns-then-is_finite
unfolding of_bits
returns-then-is_finite c =
    let s = c.args.s in
    let f : finite s ≡ true = sym c.is_finite.ensures ∙ c.if-is_finite.true in
    ap (le least_normal64) c.abs.ensures ∙ ap (λ (b : Bool). b && le least_normal64 (abs_of s)) (sym f)
