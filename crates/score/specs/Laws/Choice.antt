-- THE CHOICE THAT SAMPLES GIVE IS ACCEPTED FOR THEM. It refuses nothing: a scale has a second one, a magnitude that samples are divided by is at
-- most 2 ^ -1000, and the scale beside it lies between 0.06 and 0.33. Assumes nothing.
use Rattle.std.specs.Prelude.{◌≡◌, Bool, true, false, cond, not, ◌&&◌, List, ℕ, ◌+◌, ◌*◌, ◌^◌, ◌≤◌, ◌<◌, T, length, Float}
use Rattle.std.proofs.Math.Path.{refl}
use Rattle.std.proofs.Common.{sym, ap, subst, inl, inr, le_trans, le_of_eq, lt_of_lt_of_le}
use native.Mathlib.Omega.{arith}
use Rattle.std.proofs.Math.Dec.{lit≤}
use Rattle.std.specs.Float.{binary64}
use Rattle.std.specs.Float.Ieee.{fits, lt, le, eq}
use Rattle.std.specs.Float.Ieee.Fits.{div-fits}
use Rattle.std.specs.Float.Ieee.Scale.{finite}
use Rattle.laws.specs.Laws.Order.{le-or-lt}
use Rattle.laws.specs.Laws.Tests.{is_true, true_is, and_in}
use Rattle.float.specs.Value.{U, mag_units, pos_units, neg_units, zero64}
use Rattle.float.specs.Calls.{abs_of, quotients_of}
use Rattle.float.specs.Laws.Exact.{parts, zero-fits}
use Rattle.float.specs.Laws.Compare.{is_le, eq_zero, zero-eq}
use Rattle.float.specs.Laws.Near.{abs-exactly}
use Rattle.score.specs.declared.Choice.{Choice}
use Rattle.score.specs.declared.Choice.TheVariants.{Zero, Scale, Divide}
use Rattle.score.specs.Samples.{AllFit, some, sample_number, is_scale}
use Rattle.score.specs.Scale.{Measured, root24, least_normal64, largest_of, unit_norm, scale_with, is_normal, lower_scale, choice_of, second_scale}
use Rattle.score.specs.Choice.{
  most_magnitude64,
  least_beside64,
  most_beside64,
  ChoiceFits,
  nonzero,
  is_pair,
  is_division,
  number_for,
  choice_number,
}
use Rattle.score.specs.Laws.Sample.{UpTo, Each, each_map, Sample, some-none, samples_are, scale-says}
use Rattle.score.specs.Laws.Largest.{Plain, above_zero, largest-le}
use Rattle.score.specs.Laws.Scale.{Derived}
use Rattle.score.specs.Laws.Quotient.{Keeps, derived_scale, top, met, scale-derived, scale_most, scale_is, over_small, over_samples, over-length, over_near, over_top, chosen, choice_is, keeps-scale, keeps_divided, not_zero}

-- ---- a plain double that is at most another
plain-le : (a b : Float) → Plain a → Plain b → mag_units a ≤ mag_units b → T (le a b)
plain-le a b p q h =
    let v = parts a false p.sign in
    let w = parts b false q.sign in
    is_le a b p.fit q.fit p.fin q.fin
    (go (pos_units a) (neg_units a) (pos_units b) (neg_units b) (mag_units a) (mag_units b) v.0 v.1 w.0 w.1 h)
  where
    go : (a b c d m n : ℕ) → a ≡ m → b ≡ 0 → c ≡ n → d ≡ 0 → m ≤ n → a + d ≤ c + b
    go a b c d m n i j k l h = omega arith

-- ---- the number of samples that are accepted at both scales
pair_zero : (zs : List Float) (s : Float) → Keeps zs s × Keeps zs (second_scale s) → (good : Bool) → good ≡ true → (xs : List Float) → sample_number xs ≡ 0
    → number_for good xs zs s ≡ 0
pair_zero zs s k good g xs n =
    let a = (scale-says zs s k.0.accepted).2 in
    let b = (scale-says zs (second_scale s) k.1.accepted).2 in
    rw (g, n, a, b)

-- ---- all zero
none-nonzero : (xs : List Float) → Each (UpTo 0) xs → some nonzero xs ≡ false
none-nonzero xs e =
    some-none nonzero xs
    (each_map (UpTo 0) (λ (x : Float). nonzero x ≡ false) xs
    (λ x u. ap not (is_true (eq x zero64) (zero-eq x u.fit u.fin (least (mag_units x) u.le)))) e)
  where
    least : (a : ℕ) → a ≤ 0 → a ≡ 0
    least a h = omega arith

-- ---- a scale
pair_is : (zs : List Float) (s : Float) → Keeps zs s × Keeps zs (second_scale s) → is_pair s ≡ true
pair_is zs s k = is_true (is_pair s) (and_in (is_scale s) (is_scale (second_scale s)) (one s k.0) (one (second_scale s) k.1))
  where
    one : (t : Float) → Keeps zs t → T (is_scale t)
    one t k = and_in (finite t) (lt zero64 t) k.fin k.above

-- ---- a magnitude and a scale
-- the constants, in units
magnitude-plain : Plain most_magnitude64
magnitude-plain = record { fit = unfold fits in tt; fin = tt; sign = refl }

least_plain : Plain least_beside64
least_plain = record { fit = unfold fits in tt; fin = tt; sign = refl }

most_plain : Plain most_beside64
most_plain = record { fit = unfold fits in tt; fin = tt; sign = refl }

normal_plain : Plain least_normal64
normal_plain = record { fit = unfold fits in tt; fin = tt; sign = refl }

least-le : mag_units least_normal64 ≤ 2 ^ 52
unfolding mag_units
least-le = lit≤ tt

-- a scale that is not normal has less than 2 ^ 52 units,
not_normal : (s : Float) → Plain s → is_normal s ≡ false → mag_units s < 2 ^ 52
not_normal s p e =
    elim (le-or-lt (2 ^ 52) (mag_units s)) [
      | inl h ↦
          let a = abs-exactly s p.fit p.fin in
          let q : Plain (abs_of s) = record { fit = a.fit; fin = a.fin; sign = a.sign } in
          let l : mag_units least_normal64 ≤ mag_units (abs_of s) = le_trans (le_trans least-le h) (le_of_eq (sym a.mag)) in
          absurd (subst T e (and_in (finite s) (le least_normal64 (abs_of s)) p.fin (plain-le least_normal64 (abs_of s) normal_plain q l)))
      | inr h ↦ h
    ]

-- so it comes of a largest magnitude of at most 2 ^ 74 units, which is 2 ^ -1000
magnitude-le : (g : ℕ) (s : Float) → Derived g s → mag_units s < 2 ^ 52 → g ≤ 2 ^ 74
magnitude-le g s d h =
    elim (le-or-lt 32 (mag_units s)) [
      | inl k ↦ wide g (mag_units s) (d.keeps k) h
      | inr k ↦ elim (le-or-lt (2 ^ 20) g) [
        | inl l ↦ absurd (clash (mag_units s) (d.large l) k)
        | inr l ↦ narrow g l
      ]
    ]
  where
    wide : (g s : ℕ) → 10 * g ≤ 159 * s → s < 2 ^ 52 → g ≤ 2 ^ 74
    wide g s h k = omega arith

    clash : (s : ℕ) → 32 ≤ s → s < 32 → ⊥
    clash s h k = omega arith

    narrow : (g : ℕ) → g < 2 ^ 20 → g ≤ 2 ^ 74
    narrow g h = omega arith

-- the scale of a largest magnitude of 1, but for a bit
beside_least : (g s : ℕ) → U ≤ g + 2 ^ 1021 → 10 * g ≤ 159 * s → mag_units least_beside64 ≤ s
beside_least g s h k = go g s U (2 ^ 1021) (mag_units least_beside64) h k (unfold mag_units in lit≤ tt)
  where
    go : (g s u c l : ℕ) → u ≤ g + c → 10 * g ≤ 159 * s → 159 * l + 10 * c ≤ 10 * u → l ≤ s
    go g s u c l h k z = omega arith

beside_most : (g s : ℕ) → g ≤ U + 2 ^ 1021 → 1000 * s ≤ 324 * g + 2000 → s ≤ mag_units most_beside64
beside_most g s h k = go g s U (2 ^ 1021) (mag_units most_beside64) h k (unfold mag_units in lit≤ tt)
  where
    go : (g s u c l : ℕ) → g ≤ u + c → 1000 * s ≤ 324 * g + 2000 → 324 * (u + c) + 2000 ≤ 1000 * l → s ≤ l
    go g s u c l h k z = omega arith

module _ (xs : List Float) (len : length xs ≤ 24) (e : Each Sample xs) (P : 0 < mag_units (largest_of xs)) where
  abbrev zs : List Float
  zs = quotients_of xs (largest_of xs)

  beside : Derived (mag_units (largest_of zs)) (lower_scale zs).scale
  beside =
      let n = over-length xs len e P in
      let a = over_samples xs len e P in
      let Q : 0 < mag_units (largest_of zs) = lt_of_lt_of_le (lit≤ tt) (over_top xs len e P) in
      subst (Derived (mag_units (largest_of zs))) (sym (scale_is zs n a Q)) (scale-derived zs n a Q)

  beside_high : 1000 * mag_units (lower_scale zs).scale ≤ 324 * mag_units (largest_of zs) + 2000
  beside_high =
      let n = over-length xs len e P in
      let a = over_samples xs len e P in
      let Q : 0 < mag_units (largest_of zs) = lt_of_lt_of_le (lit≤ tt) (over_top xs len e P) in
      subst (λ (s : Float). 1000 * mag_units s ≤ 324 * mag_units (largest_of zs) + 2000) (sym (scale_is zs n a Q)) (scale_most zs n a Q)

  beside-top : mag_units (largest_of zs) ≤ U + 2 ^ 1021
  beside-top =
      let n = over-length xs len e P in
      let a = over_samples xs len e P in
      let Q : 0 < mag_units (largest_of zs) = lt_of_lt_of_le (lit≤ tt) (over_top xs len e P) in
      largest-le (U + 2 ^ 1021) zs (over_small xs len e P) (met zs n a Q)

  division_is : is_normal (derived_scale xs) ≡ false → is_division (largest_of xs) (lower_scale zs).scale ≡ true
  division_is i =
      let m = largest_of xs in
      let s = (lower_scale zs).scale in
      let p = (top xs len e).plain in
      let d = scale-derived xs len e P in
      let b = beside in
      let l = magnitude-le (mag_units m) (derived_scale xs) d (not_normal (derived_scale xs) d.plain i) in
      let k = b.keeps (b.large (over_top xs len e P)) in
      is_true (is_division m s)
      (and_in (lt zero64 m) (le m most_magnitude64 && (le least_beside64 s && le s most_beside64)) (above_zero m p P)
      (and_in (le m most_magnitude64) (le least_beside64 s && le s most_beside64)
      (plain-le m most_magnitude64 p magnitude-plain (le_trans l (unfold mag_units in lit≤ tt)))
      (and_in (le least_beside64 s) (le s most_beside64)
      (plain-le least_beside64 s least_plain b.plain (beside_least (mag_units (largest_of zs)) (mag_units s) (over_near xs len e P) k))
      (plain-le s most_beside64 b.plain most_plain (beside_most (mag_units (largest_of zs)) (mag_units s) beside-top beside_high)))))

-- ---- the number of each choice
module _ (xs : List Float) (len : length xs ≤ 24) (e : Each Sample xs) where
  all_zero : eq (largest_of xs) zero64 ≡ true → choice_number Zero xs ≡ 0
  unfolding choice_number
  all_zero y =
      let t = top xs len e in
      let z = eq_zero (largest_of xs) t.plain.fit t.plain.fin (true_is (eq (largest_of xs) zero64) y) in
      rw (none-nonzero xs (subst (λ (g : ℕ). Each (UpTo g) xs) z t.each))

  module _ (n : sample_number xs ≡ 0) (P : 0 < mag_units (largest_of xs)) where
    at_scale_lem : is_normal (derived_scale xs) ≡ true → choice_number (Scale (derived_scale xs)) xs ≡ 0
    unfolding choice_number
    at_scale_lem q = let k = keeps-scale xs len e P q in pair_zero xs (derived_scale xs) k (is_pair (derived_scale xs)) (pair_is xs (derived_scale xs) k) xs n

    at_division : is_normal (derived_scale xs) ≡ false
        → choice_number (Divide (largest_of xs) (lower_scale (quotients_of xs (largest_of xs))).scale) xs ≡ 0
    unfolding choice_number
    at_division q =
        let zs = quotients_of xs (largest_of xs) in
        let s = (lower_scale zs).scale in
        pair_zero zs s (keeps_divided xs len e P) (is_division (largest_of xs) s) (division_is xs len e P q) xs n

-- ---- its magnitude and its scale are doubles
lower-fits : (xs : List Float) → T (fits binary64 (lower_scale xs).scale)
unfolding lower_scale
lower-fits xs = go (eq (largest_of xs) zero64)
  where
    m : Float
    m = largest_of xs

    go : (b : Bool) → T (fits binary64 (cond {A = Measured} b (record { number = 0; largest = zero64; scale = zero64 })
        (record { number = 0; largest = m; scale = scale_with m (unit_norm xs m) })).scale)
    go true = zero-fits
    go false = div-fits binary64 _ root24

pub choice-fits : (xs : List Float) → AllFit xs → length xs ≤ 24 → sample_number xs ≡ 0 → ChoiceFits (choice_of xs)
choice-fits xs f len n =
    subst ChoiceFits (sym (choice_is xs))
    (go (top xs len (samples_are xs f n)).plain.fit (eq (largest_of xs) zero64) (is_normal (derived_scale xs)))
  where
    go : T (fits binary64 (largest_of xs)) → (z i : Bool) → ChoiceFits (chosen xs z i)
    go m true i = (zero-fits, zero-fits)
    go m false true = (zero-fits, div-fits binary64 _ root24)
    go m false false = (m, lower-fits (quotients_of xs (largest_of xs)))

-- ---- THE THEOREM
pub choice-accepted : (xs : List Float) → AllFit xs → length xs ≤ 24 → sample_number xs ≡ 0 → choice_number (choice_of xs) xs ≡ 0
choice-accepted xs f len n =
    let e = samples_are xs f n in
    subst (λ (h : Choice). choice_number h xs ≡ 0) (sym (choice_is xs))
    (go e (eq (largest_of xs) zero64) (is_normal (derived_scale xs)) refl refl)
  where
    go : Each Sample xs → (z i : Bool) → eq (largest_of xs) zero64 ≡ z → is_normal (derived_scale xs) ≡ i → choice_number (chosen xs z i) xs ≡ 0
    go e true i y q = all_zero xs len e y
    go e false true y q = at_scale_lem xs len e n (not_zero (largest_of xs) (top xs len e).plain y) q
    go e false false y q = at_division xs len e n (not_zero (largest_of xs) (top xs len e).plain y) q
