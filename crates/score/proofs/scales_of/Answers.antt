-- `score::scales_of` meets its contract. Assumes nothing.
use Rattle.std.proofs.Common.{sym, ap, ap₂, ◌∙◌}
use Rattle.std.specs.Prelude.{Float}
use Rattle.std.specs.Float.Ieee.{of_bits, eq}
use Rattle.float.specs.Value.{zero64}
use Rattle.score.specs.Scale.{unit_norm, scale_with, lower_scale}
use Rattle.score.proofs.scales_of.Goals as goal

pub returns-then-largest : goal.returns-then-largest
unfolding lower_scale of_bits
returns-then-largest c = let e = ap (λ (m : Float). eq m zero64) (sym c.largest-largest.ensures) ∙ c.if-largest.true in rw e

pub returns : goal.returns
unfolding lower_scale of_bits
returns c =
    let x = c.args.samples in
    let m = c.largest-largest.ensures in
    let e = ap (λ (z : Float). eq z zero64) (sym m) ∙ c.if-largest.false in
    let s = c.scale_with.ensures ∙ ap₂ scale_with m (c.unit_norm.ensures ∙ ap (unit_norm x) m) in
    rw e (ap₂ (λ (l z : Float). record { number = 0; largest = l; scale = z }) m s)
