-- `score::choice_of` meets its contract. Assumes nothing.
use mathlib.Core.Path.{sym, ap, ap₂, ◌∙◌}
use lib.Ieee.{of_bits, eq}
use Rattle.float.specs.Value.{zero64}
use Rattle.float.specs.Calls.{quotients_of}
use Rattle.score.specs.declared.Choice.TheVariants.{Scale, Divide}
use Rattle.score.specs.Scale.{Measured, is_normal, lower_scale, choice_of}
use Rattle.score.proofs.choice_of.Goals as goal

pub returns-then-a : goal.returns-then-a
unfolding choice_of of_bits
returns-then-a c =
    let a = c.scales_of-a.ensures in
    let e = ap (λ (s : Measured). eq s.largest zero64) (sym a) ∙ c.if-a.true in
    rw e

pub returns-then-is_normal : goal.returns-then-is_normal
unfolding choice_of of_bits
returns-then-is_normal c =
    let a = c.scales_of-a.ensures in
    let e = ap (λ (s : Measured). eq s.largest zero64) (sym a) ∙ c.if-a.false in
    let n = ap (λ (s : Measured). is_normal s.scale) (sym a) ∙ sym c.is_normal.ensures ∙ c.if-is_normal.true in
    rw (e, n) (ap (λ (s : Measured). Scale s.scale) a)

pub returns : goal.returns
unfolding choice_of of_bits
returns c =
    let a = c.scales_of-a.ensures in
    let e = ap (λ (s : Measured). eq s.largest zero64) (sym a) ∙ c.if-a.false in
    let n = ap (λ (s : Measured). is_normal s.scale) (sym a) ∙ sym c.is_normal.ensures ∙ c.if-is_normal.false in
    let x = c.args.samples in
    let q = c.quotients.ensures ∙ ap (λ (s : Measured). quotients_of x s.largest) a in
    rw (e, n) (ap₂ (λ (s t : Measured). Divide s.largest t.scale) a (c.scales_of-b.ensures ∙ ap lower_scale q))
