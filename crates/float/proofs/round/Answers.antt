-- `float::round` meets its contract: by the sign of the clamped number, and neither sign for a NaN. Assumes nothing.
use Rattle.std.proofs.Common.{◌≡◌, ℕ, T, true, pos, neg_ℤ, sym, ap, ◌∙◌, subst}
use lib.Ieee.{Float, binary64, fits, of_bits}
use Rattle.float.specs.Calls.{clamped, round_away, rounded}
use Rattle.float.specs.Laws.Rounding.{Ranged, clamped-fits, clamped_range}
use Rattle.float.proofs.Halves.{
  small_negative,
  away_negative,
  small_plain,
  away_plain,
  away_nan,
  read_back,
  minus-reads,
}
use Rattle.float.proofs.round.Goals as goal

-- the clamped number is a double, and a NaN or at most a million in size
module _ (x z : Float) (e : x ≡ clamped z) (w : fits binary64 z ≡ true) where
  fit : T (fits binary64 x)
  fit = subst (λ (x : Float). T (fits binary64 x)) (sym e) (clamped-fits z (subst T (sym w) tt))

  ranged : Ranged x
  ranged = subst Ranged (sym e) (clamped_range z (subst T (sym w) tt))

is : (x z : Float) → x ≡ clamped z → round_away x ≡ rounded z
unfolding rounded
is x z e = ap round_away e

pub half_up-requires : goal.half_up-requires
unfolding of_bits
half_up-requires c =
    let x = c.clamp-c.result in
    let z = c.args.z in
    let e = c.clamp-c.ensures in
    let w = c.well_formed.0.1 in
    small_negative x (fit x z e w) (ranged x z e w) c.if-c.true

pub returns-then-c : goal.returns-then-c
unfolding of_bits
returns-then-c c =
    let x = c.clamp-c.result in
    let z = c.args.z in
    let e = c.clamp-c.ensures in
    let w = c.well_formed.0.1 in
    minus-reads c.half_up.result c.half_up.ensures.1
    ∙ ap (λ (k : ℕ). neg_ℤ (pos k)) c.half_up.ensures.0
    ∙ sym (away_negative x (fit x z e w) (ranged x z e w) c.if-c.true)
    ∙ is x z e

pub half_up-requires-then-c-2 : goal.half_up-requires-then-c-2
unfolding of_bits
half_up-requires-then-c-2 c =
    let x = c.clamp-c.result in
    let z = c.args.z in
    let e = c.clamp-c.ensures in
    let w = c.well_formed.0.1 in
    small_plain x (fit x z e w) (ranged x z e w) c.if-c-2.true

pub returns-then-c-2 : goal.returns-then-c-2
unfolding of_bits
returns-then-c-2 c =
    let x = c.clamp-c.result in
    let z = c.args.z in
    let e = c.clamp-c.ensures in
    let w = c.well_formed.0.1 in
    read_back c.half_up-then-c-2.result c.half_up-then-c-2.ensures.1
    ∙ ap pos c.half_up-then-c-2.ensures.0
    ∙ sym (away_plain x (fit x z e w) (ranged x z e w) c.if-c-2.true)
    ∙ is x z e

pub returns : goal.returns
unfolding of_bits
returns c =
    let x = c.clamp-c.result in
    let z = c.args.z in
    let e = c.clamp-c.ensures in
    let w = c.well_formed.0.1 in
    away_nan x (fit x z e w) (ranged x z e w) c.if-c.false c.if-c-2.false ∙ is x z e
