-- THE DERIVED SCALES KEEP EACH QUOTIENT BELOW 16. For accepted samples that are not all zero, the choice's samples (as given, or divided by their
-- largest magnitude) at each of the choice's two scales: the scale is a finite number above 0, each quotient is below 16 in magnitude, and
-- nothing is refused. So `encode` never gives 3 or 4. Assumes nothing.
use Rattle.std.specs.Prelude.{◌≡◌, Bool, true, cond, ℕ, ◌+◌, ◌*◌, ◌^◌, ◌≤◌, ◌<◌, T, length, get_or, Float}
use Rattle.std.proofs.Math.Path.{refl}
use Rattle.std.proofs.Common.{sym, ◌∙◌, subst, inl, inr, le_trans, le_of_eq, le_of_lt, lt_of_lt_of_le, mul_comm, mul_assoc, mul_left_comm, mul-pos, mul-le-mul_left, mul-le-mul_right, lt_of_mul-lt-mul_right, eq-zero-or-pos, arith, pow_pos}
use Rattle.std.proofs.Math.Bool.{false}
use mathlib.Core.List.{List, [], ◌∷◌}
use Rattle.std.proofs.Math.Dec.{lit≤}
use Rattle.std.specs.Float.{nan, binary64}
use Rattle.std.specs.Float.Ieee.{fits, unlike, div, lt, le, eq}
use Rattle.std.specs.Float.Ieee.Scale.{finite}
use Rattle.laws.specs.Laws.Tests.{is_false, true_is, and_in, and_right}
use Rattle.float.specs.Value.{U, mag_units, is_minus, pos_units, neg_units, zero64}
use Rattle.float.specs.Calls.{abs_of, quotients_of}
use Rattle.float.specs.Laws.Exact.{parts}
use Rattle.float.specs.Laws.Compare.{le_is, eq_zero, zero-eq}
use Rattle.float.specs.Laws.Error.{Rounded}
use Rattle.float.specs.Laws.Near.{abs-exactly}
use Rattle.float.specs.Laws.Arithmetic.{div-fraction, fraction-rounded}
use Rattle.float.specs.Laws.Arrays.{quotients-length, quotients-at}
use Rattle.score.specs.declared.Choice.{Choice}
use Rattle.score.specs.declared.Choice.TheVariants.{Zero, Scale, Divide}
use Rattle.score.specs.Samples.{AllFit, limit64, sample_number, scale_number}
use Rattle.score.specs.Scale.{
  Measured,
  least_normal64,
  largest_of,
  unit_norm,
  scale_with,
  lower_scale,
  is_normal,
  choice_from,
  choice_of,
  samples_for,
  first_scale,
  second_scale,
}
use Rattle.score.specs.Laws.Sample.{
  UpTo,
  Each,
  none,
  more,
  each_at,
  each_map,
  Sample,
  samples_are,
  sample_number_zero,
  scale_number_zero,
}
use Rattle.score.specs.Laws.Largest.{Has, Plain, above_zero, Largest, largest_of_lem, largest_met, largest-le}
use Rattle.score.specs.Laws.Norm.{over_all, over_reaches, norm_is}
use Rattle.score.specs.Laws.Scale.{derived_most, Derived, derived, Kept, kept-first, kept_second}

-- ---- below 16 in magnitude
abbrev Below16 : Float → Type 0
Below16 q = T (fits binary64 q) × T (finite q) × (mag_units q < 16 * U)

-- ---- a quotient of x, of at most g units, by a scale that keeps g
module _ (g : ℕ) (s : Float) (k : Kept g s) where
  s_pos : 0 < mag_units s
  s_pos = lt_of_lt_of_le (lit≤ tt) k.some

  -- x / s is at most 15.9
  x-le : (x : Float) → UpTo g x → 10 * (mag_units x * U) ≤ 159 * (mag_units s * U)
  x-le x u =
      le_trans (le_of_eq (sym (mul_assoc 10 (mag_units x) U)))
      (le_trans (mul-le-mul_right U (le_trans (mul-le-mul_left 10 u.le) k.keeps)) (le_of_eq (mul_assoc 159 (mag_units s) U)))

  quotient : (x : Float) → UpTo g x → Rounded (div binary64 x s) (unlike (is_minus x) (is_minus s)) (mag_units x * U) (mag_units s) 4
  quotient x u =
      fraction-rounded 4 (div-fraction x s u.fit k.plain.fit u.fin k.plain.fin s_pos) (lit≤ tt)
      (lt_of_lt_of_le (go (mag_units x * U) (mag_units s * U) (x-le x u) (mul-pos s_pos (pow_pos 1074)))
      (le_of_eq (mul_left_comm 16 (mag_units s) U ∙ mul_comm (mag_units s) (16 * U))))
    where
      go : (a b : ℕ) → 10 * a ≤ 159 * b → 0 < b → a < 16 * b
      go a b h p = omega arith

  quotient-lt : (x : Float) → UpTo g x → mag_units (div binary64 x s) < 16 * U
  quotient-lt x u =
      let q = mag_units (div binary64 x s) in
      let fine : 100 * 2 ^ 1024 ≤ U = lit≤ tt in
      lt_of_mul-lt-mul_right (mag_units s)
      (lt_of_lt_of_le
      (go (q * mag_units s) (mag_units x * U) (2 ^ 1024 * mag_units s) (mag_units s * U) (quotient x u).hi (x-le x u)
      (le_trans (le_of_eq (sym (mul_assoc 100 (2 ^ 1024) (mag_units s))))
      (le_trans (mul-le-mul_right (mag_units s) fine) (le_of_eq (mul_comm U (mag_units s)))))
      (mul-pos s_pos (pow_pos 1074)))
      (le_of_eq (mul_left_comm 16 (mag_units s) U ∙ mul_comm (mag_units s) (16 * U))))
    where
      go : (qs xu e su : ℕ) → qs ≤ xu + e → 10 * xu ≤ 159 * su → 100 * e ≤ su → 0 < su → qs < 16 * su
      go qs xu e su a b c d = omega arith

  quotients-lt : (xs : List Float) → Each (UpTo g) xs → Each Below16 (quotients_of xs s)
  unfolding quotients_of
  quotients-lt [] none = none
  quotients-lt (x ∷ xs) (more u e) = more ((quotient x u).fit, (quotient x u).fin, quotient-lt x u) (quotients-lt xs e)

-- ---- what the theorem says of samples at a scale
pub record Keeps (xs : List Float) (s : Float) : Type 0 where
  pub fin : T (finite s)
  pub above : T (lt zero64 s)
  pub below : (k : ℕ) → k < length xs → mag_units (div binary64 (get_or xs k nan) s) < 16 * U
  pub accepted : scale_number xs s ≡ 0

keeps : (g : ℕ) (xs : List Float) (s : Float) → Each Sample xs → Each (UpTo g) xs → Kept g s → Keeps xs s
keeps g xs s e u k =
    let q = quotients-lt g s k xs u in
    let above = above_zero s k.plain (lt_of_lt_of_le (lit≤ tt) k.some) in
    let wide : 16 * U ≤ 1000000 * U = lit≤ tt in
    record {
      fin = k.plain.fin;
      above = above;
      below = λ j h. subst (λ (z : Float). mag_units z < 16 * U) (quotients-at xs s j h)
          (each_at Below16 (quotients_of xs s) q j
          (lt_of_lt_of_le h (le_of_eq (sym (quotients-length xs s))))).2;
      accepted = scale_number_zero xs s (and_in (finite s) (lt zero64 s) k.plain.fin above) (sample_number_zero xs e)
          (each_map Below16 (UpTo (1000000 * U)) (quotients_of xs s)
          (λ z p. record { fit = p.0; fin = p.1; le = le_trans (le_of_lt p.2) wide }) q);
    }

-- ---- the largest magnitude is zero or not
pub not_zero : (m : Float) → Plain m → eq m zero64 ≡ false → 0 < mag_units m
not_zero m p e =
    elim (eq-zero-or-pos (mag_units m)) [
      | inl z ↦ absurd (subst T e (zero-eq m p.fit p.fin z))
      | inr h ↦ h
    ]

is_not_zero : (m : Float) → Plain m → 0 < mag_units m → eq m zero64 ≡ false
is_not_zero m p h = is_false (eq m zero64) (λ t. clash (mag_units m) (eq_zero m p.fit p.fin t) h)
  where
    clash : (a : ℕ) → a ≡ 0 → 0 < a → ⊥
    clash a i h = omega arith

-- ---- a normal scale has 2 ^ 52 units or more
least_units : mag_units least_normal64 ≡ 2 ^ 52
unfolding mag_units
least_units = refl

least_fits : T (fits binary64 least_normal64)
unfolding fits
least_fits = tt

normal_large : (s : Float) → Plain s → is_normal s ≡ true → 32 ≤ mag_units s
normal_large s p e =
    let a = abs-exactly s p.fit p.fin in
    let w = parts (abs_of s) false a.sign in
    let l =
    le_is least_normal64 (abs_of s) least_fits a.fit tt a.fin (and_right (finite s) (le least_normal64 (abs_of s)) (true_is (is_normal s) e)) in
    go (mag_units least_normal64) (pos_units (abs_of s)) (neg_units (abs_of s)) (mag_units (abs_of s)) (mag_units s) least_units w.0 w.1 a.mag l
  where
    go : (l a b c m : ℕ) → l ≡ 2 ^ 52 → a ≡ c → b ≡ 0 → c ≡ m → l + b ≤ a + 0 → 32 ≤ m
    go l a b c m i j k n h = omega arith

-- ---- the scale that is derived from samples which are not all zero
abbrev pub derived_scale : List Float → Float
derived_scale xs = scale_with (largest_of xs) (unit_norm xs (largest_of xs))

module _ (xs : List Float) (len : length xs ≤ 24) (e : Each Sample xs) where
  pub top : Largest zero64 xs (largest_of xs)
  top = largest_of_lem (mag_units limit64) xs e

  pub met : 0 < mag_units (largest_of xs) → Has (mag_units (largest_of xs)) xs
  met P = largest_met (mag_units limit64) xs e P

  pub scale-derived : 0 < mag_units (largest_of xs) → Derived (mag_units (largest_of xs)) (derived_scale xs)
  scale-derived P =
      derived (largest_of xs) (unit_norm xs (largest_of xs)) top.plain (largest-le (mag_units limit64) xs e (met P))
      (norm_is xs (largest_of xs) top.plain P len top.each (met P))

  pub scale_most : 0 < mag_units (largest_of xs) → 1000 * mag_units (derived_scale xs) ≤ 324 * mag_units (largest_of xs) + 2000
  scale_most P =
      derived_most (largest_of xs) (unit_norm xs (largest_of xs)) top.plain (largest-le (mag_units limit64) xs e (met P))
      (norm_is xs (largest_of xs) top.plain P len top.each (met P))

  pub scale_is : 0 < mag_units (largest_of xs) → (lower_scale xs).scale ≡ derived_scale xs
  unfolding lower_scale
  scale_is P = rw (is_not_zero (largest_of xs) top.plain P)

-- ---- samples over their largest magnitude are accepted samples, and the largest of them is 1, but for a bit
module _ (xs : List Float) (len : length xs ≤ 24) (e : Each Sample xs) (P : 0 < mag_units (largest_of xs)) where
  abbrev divided : List Float
  divided = quotients_of xs (largest_of xs)

  pub over_small : Each (UpTo (U + 2 ^ 1021)) divided
  over_small = over_all (largest_of xs) (top xs len e).plain P xs (top xs len e).each

  pub over_samples : Each Sample divided
  over_samples = each_map (UpTo (U + 2 ^ 1021)) Sample divided (λ x u. record { fit = u.fit; fin = u.fin; le = le_trans u.le room }) over_small
    where
      room : U + 2 ^ 1021 ≤ mag_units limit64
      room = unfold mag_units in lit≤ tt

  pub over-length : length divided ≤ 24
  over-length = le_trans (le_of_eq (quotients-length xs (largest_of xs))) len

  pub over_near : U ≤ mag_units (largest_of divided) + 2 ^ 1021
  over_near =
      over_reaches (largest_of xs) (top xs len e).plain P (mag_units (largest_of divided)) xs (top xs len e).each (met xs len e P)
      (top divided over-length over_samples).each

  pub over_top : 2 ^ 20 ≤ mag_units (largest_of divided)
  over_top = far (mag_units (largest_of divided)) U (2 ^ 1021) over_near (lit≤ tt)
    where
      far : (g u c : ℕ) → u ≤ g + c → 2 ^ 20 + c ≤ u → 2 ^ 20 ≤ g
      far g u c h k = omega arith

-- ---- the choice, by its two tests
abbrev pub chosen : List Float → Bool → Bool → Choice
chosen xs z n =
    cond z Zero (cond n (Scale (derived_scale xs)) (Divide (largest_of xs) (lower_scale (quotients_of xs (largest_of xs))).scale))

pub choice_is : (xs : List Float) → choice_of xs ≡ chosen xs (eq (largest_of xs) zero64) (is_normal (derived_scale xs))
unfolding choice_of lower_scale
choice_is xs = go (eq (largest_of xs) zero64) refl
  where
    zeros : Measured
    zeros = record { number = 0; largest = zero64; scale = zero64 }

    go : (b : Bool) → eq (largest_of xs) zero64 ≡ b
        → choice_from xs (cond b zeros (record { number = 0; largest = largest_of xs; scale = derived_scale xs }))
        ≡ chosen xs b (is_normal (derived_scale xs))
    go true h = unfold eq in refl
    go false h = rw h

-- ---- THE THEOREM
-- the samples and both scales of a choice
abbrev pub KeepsBoth : List Float → Choice → Type 0
KeepsBoth xs c = Keeps (samples_for c xs) (first_scale c) × Keeps (samples_for c xs) (second_scale (first_scale c))

both : (xs : List Float) (len : length xs ≤ 24) (e : Each Sample xs) → 0 < mag_units (largest_of xs) → 32 ≤ mag_units (derived_scale xs)
    → Keeps xs (derived_scale xs) × Keeps xs (second_scale (derived_scale xs))
both xs len e P b =
    let d = scale-derived xs len e P in
    let g = mag_units (largest_of xs) in
    let u = (top xs len e).each in
    (keeps g xs (derived_scale xs) e u (kept-first d b), keeps g xs (second_scale (derived_scale xs)) e u (kept_second d b))

-- at a normal scale, and after the division
module _ (xs : List Float) (len : length xs ≤ 24) (e : Each Sample xs) (P : 0 < mag_units (largest_of xs)) where
  pub keeps-scale : is_normal (derived_scale xs) ≡ true → KeepsBoth xs (Scale (derived_scale xs))
  keeps-scale n = both xs len e P (normal_large (derived_scale xs) (scale-derived xs len e P).plain n)

  pub keeps_divided : KeepsBoth xs (Divide (largest_of xs) (lower_scale (quotients_of xs (largest_of xs))).scale)
  keeps_divided =
      let zs = quotients_of xs (largest_of xs) in
      let n = over-length xs len e P in
      let a = over_samples xs len e P in
      let t = over_top xs len e P in
      let Q : 0 < mag_units (largest_of zs) = lt_of_lt_of_le (lit≤ tt) t in
      subst (λ (s : Float). Keeps zs s × Keeps zs (second_scale s)) (sym (scale_is zs n a Q)) (both zs n a Q ((scale-derived zs n a Q).large t))

-- a choice of a scale is not that of an all-zero vector
pub scale-chosen : (s : Float) → Scale s ≡ Zero → ⊥
scale-chosen s e = let z : ◌≡◌ {A = ℕ} 0 1 = cc in omega arith

pub choice-keeps : (xs : List Float) → AllFit xs → length xs ≤ 24 → sample_number xs ≡ 0 → (choice_of xs ≡ Zero → ⊥) → KeepsBoth xs (choice_of xs)
choice-keeps xs f len n h =
    let e = samples_are xs f n in
    subst (KeepsBoth xs) (sym (choice_is xs))
    (go e (eq (largest_of xs) zero64) (is_normal (derived_scale xs)) (not_zero (largest_of xs) (top xs len e).plain) refl (λ z. h (choice_is xs ∙ z)))
  where
    go : Each Sample xs → (z n : Bool) → (z ≡ false → 0 < mag_units (largest_of xs)) → is_normal (derived_scale xs) ≡ n → (chosen xs z n ≡ Zero → ⊥)
        → KeepsBoth xs (chosen xs z n)
    go e true n P i h = absurd (h refl)
    go e false true P i h = keeps-scale xs len e (P refl) i
    go e false false P i h = keeps_divided xs len e (P refl)

-- only zeros give the choice for zeros
pub zero_choice : (xs : List Float) → AllFit xs → sample_number xs ≡ 0 → choice_of xs ≡ Zero → (k : ℕ) → k < length xs → mag_units (get_or xs k nan) ≡ 0
zero_choice xs f n h k l =
    let t = largest_of_lem (mag_units limit64) xs (samples_are xs f n) in
    let z = true_is (eq (largest_of xs) zero64) (go (eq (largest_of xs) zero64) (is_normal (derived_scale xs)) (sym (choice_is xs) ∙ h)) in
    least (mag_units (get_or xs k nan)) (mag_units (largest_of xs)) (each_at (UpTo (mag_units (largest_of xs))) xs t.each k l).le
    (eq_zero (largest_of xs) t.plain.fit t.plain.fin z)
  where
    least : (a b : ℕ) → a ≤ b → b ≡ 0 → a ≡ 0
    least a b h i = omega arith

    no_scale_lem : {s : Float} → Scale s ≡ Zero → ⊥
    no_scale_lem h = let z : ◌≡◌ {A = ℕ} 0 1 = cc in omega arith

    no_division : {m s : Float} → Divide m s ≡ Zero → ⊥
    no_division h = let z : ◌≡◌ {A = ℕ} 0 1 = cc in omega arith

    go : (z n : Bool) → chosen xs z n ≡ Zero → z ≡ true
    go true n h = refl
    go false true h = absurd (no_scale_lem h)
    go false false h = absurd (no_division h)
