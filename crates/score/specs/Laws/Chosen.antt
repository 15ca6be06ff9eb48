-- WHAT AN ACCEPTED CHOICE SAYS, of any samples: what is coded under it, the samples or their quotients by its magnitude, are accepted samples, and
-- they are accepted at both of its scales. So a choice is two calls at a scale. Assumes nothing.
use Rattle.std.specs.Prelude.{◌≡◌, Bool, true, cond, ℕ, ◌+◌, ◌*◌, ◌^◌, ◌≤◌, ◌<◌, eqb, Float}
use Rattle.std.proofs.Math.Path.{refl}
use Rattle.std.proofs.Common.{sym, ap, ◌∙◌, le_trans, le_of_eq, lt_of_lt_of_le, mul_assoc, one-mul, add-mul, mul-le-mul, le_of_mul-le-mul_right, arith, eqb-true, pow_pos}
use Rattle.std.proofs.Math.Bool.{false}
use mathlib.Core.List.{List, [], ◌∷◌}
use Rattle.std.proofs.lemmas.Bool.{eqb-false}
use Rattle.std.proofs.Math.Dec.{T, lit≤}
use Rattle.std.specs.Float.{nan, inf}
use Rattle.std.specs.Float.Ieee.{fin, binary64, fits, div, lt, le, eq}
use Rattle.std.specs.Float.Ieee.Fits.{div-fits}
use Rattle.std.specs.Float.Ieee.Scale.{finite}
use Rattle.laws.specs.Laws.Tests.{split4, and_in, and_left, and_right}
use Rattle.float.specs.Value.{U, mag_units, pos_units, neg_units, zero64}
use Rattle.float.specs.Calls.{million64, quotients_of}
use Rattle.float.specs.Laws.Exact.{parts, zero-fits, zero_mag}
use Rattle.float.specs.Laws.Compare.{le_is, zero-lt, is_lt}
use Rattle.float.specs.Laws.Near.{abs-upto}
use Rattle.float.specs.Laws.Relative.{div-finite}
use Rattle.float.specs.Laws.Rounding.{million-fits, million_units}
use Rattle.score.specs.declared.Choice.{Choice}
use Rattle.score.specs.declared.Choice.TheVariants.{Zero, Scale, Divide}
use Rattle.score.specs.Samples.{AllFit, limit64, exceeds, some, sample_number, is_scale, or_else, scale_number}
use Rattle.score.specs.Scale.{samples_for, first_scale, second_scale}
use Rattle.score.specs.Choice.{
  most_magnitude64,
  least_beside64,
  most_beside64,
  ChoiceFits,
  is_pair,
  is_division,
  number_for,
  choice_number,
}
use Rattle.score.specs.Laws.Sample.{
  Each,
  none,
  more,
  Sample,
  some_cons,
  samples_are,
  sample_number_zero,
  scale_number_from,
}
use Rattle.score.specs.Laws.Finite.{quotient-finite, divided-finite}
use Rattle.score.specs.Laws.Largest.{Plain, above_zero}
use Rattle.score.specs.Laws.Scale.{second_grows}

-- ---- what the number 0 says: the choice is a good one, the samples are accepted, and neither test for 4 strikes
for_says : (good : Bool) (xs zs : List Float) (s : Float) → number_for good xs zs s ≡ 0
    → T good × (sample_number xs ≡ 0) × (some (exceeds million64) (quotients_of zs s) ≡ false)
    × (some (exceeds million64) (quotients_of zs (second_scale s)) ≡ false)
for_says good xs zs s =
    go good (sample_number xs) (some (exceeds million64) (quotients_of zs s)) (some (exceeds million64) (quotients_of zs (second_scale s)))
  where
    by : (k : ℕ) (t : Bool) → eqb k 0 ≡ t → (a b : Bool) → cond t (or_else (cond a 4 0) (cond b 4 0)) k ≡ 0 → (k ≡ 0) × (a ≡ false) × (b ≡ false)
    by k true h true b e = absurd (omega arith)
    by k true h false true e = absurd (omega arith)
    by k true h false false e = (eqb-true k 0 h, refl, refl)
    by k false h a b e = absurd (eqb-false k 0 h e)

    go : (g : Bool) (k : ℕ) (a b : Bool) → cond g (or_else k (or_else (cond a 4 0) (cond b 4 0))) 3 ≡ 0
        → T g × (k ≡ 0) × (a ≡ false) × (b ≡ false)
    go false k a b e = absurd (omega arith)
    go true k a b e = let r = by k (eqb k 0) refl a b e in (tt, r.0, r.1, r.2)

-- ---- a scale between 0.06 and 0.33 is no NaN and no infinity, and is above 0; a magnitude likewise
between : (s : Float) → T (le least_beside64 s) → T (le s most_beside64) → T (finite s)
unfolding le lt eq
between nan a b = absurd a
between (inf false) a b = absurd b
between (inf true) a b = absurd a
between (fin t m e) a b = tt

up_to : (m : Float) → T (lt zero64 m) → T (le m most_magnitude64) → T (finite m)
unfolding le lt eq
up_to nan a b = absurd a
up_to (inf false) a b = absurd b
up_to (inf true) a b = absurd a
up_to (fin t n e) a b = tt

record Beside (s : Float) : Type 0 where
  plain : Plain s
  low : 32 ≤ mag_units s
  high : mag_units s ≤ U

beside : (s : Float) → T (fits binary64 s) → T (le least_beside64 s) → T (le s most_beside64) → Beside s
beside s f a b =
    let i = between s a b in
    let c = le_is least_beside64 s (unfold fits in tt) f tt i a in
    let d = le_is s most_beside64 f (unfold fits in tt) i tt b in
    let v = parts least_beside64 false refl in
    let w = parts most_beside64 false refl in
    let z : T (lt zero64 s) =
    is_lt zero64 s zero-fits f tt i
    (above (pos_units s) (neg_units s) (pos_units least_beside64) (neg_units least_beside64) (mag_units least_beside64) (mag_units zero64) v.0 v.1 zero_mag least_is c) in
    let p = zero-lt s f i z in
    let q = parts s false p.0 in
    record {
      plain = record { fit = f; fin = i; sign = p.0 };
      low = low (pos_units s) (neg_units s) (pos_units least_beside64) (neg_units least_beside64) (mag_units least_beside64) (mag_units s) v.0 v.1 q.0 q.1
          least_is c;
      high = high (pos_units s) (neg_units s) (pos_units most_beside64) (neg_units most_beside64) (mag_units most_beside64) (mag_units s) U w.0 w.1 q.0 q.1
          most_is d;
    }
  where
    least_is : 32 ≤ mag_units least_beside64
    least_is = unfold mag_units in lit≤ tt

    most_is : mag_units most_beside64 ≤ U
    most_is = unfold mag_units in lit≤ tt

    above : (a b c d l z : ℕ) → c ≡ l → d ≡ 0 → z ≡ 0 → 32 ≤ l → c + b ≤ a + d → z + b < a + 0
    above a b c d l z i j k h e = omega arith

    low : (a b c d l m : ℕ) → c ≡ l → d ≡ 0 → a ≡ m → b ≡ 0 → 32 ≤ l → c + b ≤ a + d → 32 ≤ m
    low a b c d l m i j k n h e = omega arith

    high : (a b c d l m u : ℕ) → c ≡ l → d ≡ 0 → a ≡ m → b ≡ 0 → l ≤ u → a + d ≤ c + b → m ≤ u
    high a b c d l m u i j k n h e = omega arith

plain-scale : (s : Float) → Plain s → 32 ≤ mag_units s → T (is_scale s)
plain-scale s p h = and_in (finite s) (lt zero64 s) p.fin (above_zero s p (lt_of_lt_of_le (lit≤ tt) h))

second_scale_lem : (s : Float) → Beside s → T (is_scale (second_scale s))
second_scale_lem s b =
    let room : U ≤ 2 ^ 2060 = lit≤ tt in
    let z = second_grows s b.plain (le_trans b.high room) b.low in
    plain-scale (second_scale s) z.plain (le_trans b.low z.more)

-- ---- a quotient by m that does not exceed a million at such a scale is an accepted sample: the scale is below 1, so it is no larger than that
module _ (m s : Float) (fm : T (fits binary64 m)) (im : T (finite m)) (pm : T (lt zero64 m)) (b : Beside s) where
  s_pos : 0 < mag_units s
  s_pos = lt_of_lt_of_le (lit≤ tt) b.low

  one : (x : Float) → Sample x → exceeds million64 (div binary64 (div binary64 x m) s) ≡ false → Sample (div binary64 x m)
  one x u e =
      let z = div binary64 x m in
      let q = div binary64 z s in
      let fz = div-fits binary64 x m in
      let i = divided-finite x m s u.fit fm u.fin im pm b.plain.fin e in
      let j = quotient-finite z s fz b.plain.fit i b.plain.fin (above_zero s b.plain s_pos) e in
      let c = div-finite z s fz b.plain.fit i b.plain.fin s_pos j in
      let l = le_trans (abs-upto million64 q million-fits tt refl (div-fits binary64 z s) j e) (le_of_eq million_units) in
      record {
        fit = fz;
        fin = i;
        le = le_trans
            (le_of_mul-le-mul_right
            (le_trans (far (mag_units z * U) (mag_units q * mag_units s) (1000000 * U * U) (mag_units s) U c.lo (mul-le-mul l b.high) b.high)
            (le_of_eq (gathered U)))
            (pow_pos 1074))
            room;
      }
    where
      far : (a b c s u : ℕ) → a * 2 ^ 53 ≤ b * 2 ^ 53 + a + 2 ^ 52 * s → b ≤ c → s ≤ u → a ≤ 2 * c + u
      far a b c s u h k l = omega arith

      gathered : (u : ℕ) → 2 * (1000000 * u * u) + u ≡ (2 * (1000000 * u) + 1) * u
      gathered u = ap (λ (n : ℕ). n + u) (sym (mul_assoc 2 (1000000 * u) u)) ∙ ap (λ (n : ℕ). 2 * (1000000 * u) * u + n) (sym (one-mul u)) ∙ sym (add-mul (2 * (1000000 * u)) 1 u)

      room : 2 * (1000000 * U) + 1 ≤ mag_units limit64
      room = unfold mag_units in lit≤ tt

  each_divided : (xs : List Float) → Each Sample xs → some (exceeds million64) (quotients_of (quotients_of xs m) s) ≡ false → Each Sample (quotients_of xs m)
  unfolding quotients_of
  each_divided [] none e = none
  each_divided (x ∷ xs) (more u k) e =
      let c = some_cons (exceeds million64) (div binary64 (div binary64 x m) s) (quotients_of (quotients_of xs m) s) e in
      more (one x u c.0) (each_divided xs k c.1)

-- ---- THE THEOREM
pub record Says (h : Choice) (xs : List Float) : Type 0 where
  pub samples : sample_number xs ≡ 0
  pub first : scale_number (samples_for h xs) (first_scale h) ≡ 0
  pub second : scale_number (samples_for h xs) (second_scale (first_scale h)) ≡ 0

at_scale_lem : (s : Float) (xs : List Float) → choice_number (Scale s) xs ≡ 0 → Says (Scale s) xs
unfolding choice_number
at_scale_lem s xs e =
    let r = for_says (is_pair s) xs xs s e in
    record {
      samples = r.1;
      first = scale_number_from xs s (and_left (is_scale s) (is_scale (second_scale s)) r.0) r.1 r.2;
      second = scale_number_from xs (second_scale s) (and_right (is_scale s) (is_scale (second_scale s)) r.0) r.1 r.3;
    }

at_division : (m s : Float) (xs : List Float) → ChoiceFits (Divide m s) → AllFit xs → choice_number (Divide m s) xs ≡ 0 → Says (Divide m s) xs
unfolding choice_number
at_division m s xs f a e =
    let zs = quotients_of xs m in
    let r = for_says (is_division m s) xs zs s e in
    let d = split4 (lt zero64 m) (le m most_magnitude64) (le least_beside64 s) (le s most_beside64) r.0 in
    let b = beside s f.1 d.2 d.3 in
    let n = sample_number_zero zs (each_divided m s f.0 (up_to m d.0 d.1) d.0 b xs (samples_are xs a r.1) r.2) in
    record {
      samples = r.1;
      first = scale_number_from zs s (plain-scale s b.plain b.low) n r.2;
      second = scale_number_from zs (second_scale s) (second_scale_lem s b) n r.3;
    }

pub choice-says : (h : Choice) (xs : List Float) → ChoiceFits h → AllFit xs → choice_number h xs ≡ 0 → (h ≡ Zero → ⊥) → Says h xs
choice-says Zero xs f a e k = absurd (k refl)
choice-says (Scale s) xs f a e k = at_scale_lem s xs e
choice-says (Divide m s) xs f a e k = at_division m s xs f a e
