-- The comparisons of two finite doubles are those of their exact values, whatever the signs. Assumes nothing.
use Rattle.std.specs.Prelude.{◌≡◌, ℕ, suc, ◌+◌, ◌*◌, ◌<◌, ◌≤◌, Bool, true, false, cond, T, ℤ, ◌==◌, refl, Float}
use Rattle.std.proofs.Common.{sym, ap, ◌∙◌, subst, lt_of_lt_of_le, lt_of_le_of_lt, lt_of_not-le, le_of_suc-le-suc, eq-or-lt_of_le, mul_comm, zero-mul, mul-pos, mul-lt-mul_of_pos_right, lt_of_mul-lt-mul_right, arith, ltb→lt, lt→ltb, eqb→eq, pow_pos}
use Rattle.std.proofs.Math.Logic.{inl, inr}
use Rattle.std.proofs.Math.Nat.{le_of_eq, le_of_lt, eq_of_mul-eq-mul_right}
use Rattle.std.specs.Float.{nan, inf, fin, binary64}
use Rattle.std.specs.Float.Ieee.{up, down, fits, lt, le, eq, below, level}
use Rattle.std.specs.Float.Ieee.Fits.{down_pos}
use Rattle.std.specs.Float.Ieee.Scale.{finite}
use Rattle.laws.specs.Laws.Tests.{and_left, and_right, and_in, eq→eqb, or_left, or_right, or_cases}
use Rattle.float.specs.Value.{U, mag_units, is_minus, pos_units, neg_units, zero64}
use Rattle.float.specs.Laws.Exact.{zero-fits, zero_mag, has_value, scaled, add_scaled}

-- x < y, x ≤ y and x = y as whole numbers of units
abbrev pub Less : Float → Float → Type 0
Less x y = pos_units x + neg_units y < pos_units y + neg_units x

abbrev pub AtMost : Float → Float → Type 0
AtMost x y = pos_units x + neg_units y ≤ pos_units y + neg_units x

abbrev pub Equal : Float → Float → Type 0
Equal x y = pos_units x + neg_units y ≡ pos_units y + neg_units x

-- ---- two numerators a and b over one denominator c, and their x and y units
module _ (a b c x y : ℕ) (C : 0 < c) (p : a * U ≡ x * c) (q : b * U ≡ y * c) where
  to_units : a < b → x < y
  to_units l =
      lt_of_mul-lt-mul_right c
      (lt_of_le_of_lt (le_of_eq (sym p)) (lt_of_lt_of_le (mul-lt-mul_of_pos_right l (pow_pos 1074)) (le_of_eq q)))

  of_units : x < y → a < b
  of_units l =
      lt_of_mul-lt-mul_right U
      (lt_of_le_of_lt (le_of_eq p) (lt_of_lt_of_le (mul-lt-mul_of_pos_right l C) (le_of_eq (sym q))))

  same_to_units : a ≡ b → x ≡ y
  same_to_units e = eq_of_mul-eq-mul_right c C x y (sym p ∙ ap (λ (z : ℕ). z * U) e ∙ q)

  same_of_units : x ≡ y → a ≡ b
  same_of_units e = eq_of_mul-eq-mul_right U (pow_pos 1074) a b (p ∙ ap (λ (z : ℕ). z * c) e ∙ sym q)

-- a test that says a fact, no more and no less
abbrev Says : Bool → Type 0 → Type 0
Says b P = (T b → P) × (P → T b)

-- by the signs s and t of the two
module _ (a b c x y : ℕ) (C : 0 < c) (p : a * U ≡ x * c) (q : b * U ≡ y * c) where
  none : 0 * U ≡ 0 * c
  none = zero-mul U ∙ sym (zero-mul c)

  pub both : (a + b) * U ≡ (x + y) * c
  both = add_scaled a b U x y c p q

  below-says : (s t : Bool) → Says (below s a t b) (cond s 0 x + cond t y 0 < cond t 0 y + cond s x 0)
  below-says false false = (
    λ h. let l : x < y = to_units a b c x y C p q (ltb→lt a b h) in omega arith,
    λ h. lt→ltb a b (of_units a b c x y C p q (omega arith)),
  )
  below-says false true = (λ h. absurd h, λ h. absurd (omega arith))
  below-says true false = (
    λ h. let l : 0 < x + y = to_units 0 (a + b) c 0 (x + y) C none both (ltb→lt 0 (a + b) h) in omega arith,
    λ h. lt→ltb 0 (a + b) (of_units 0 (a + b) c 0 (x + y) C none both (omega arith)),
  )
  below-says true true = (
    λ h. let l : y < x = to_units b a c y x C q p (ltb→lt b a h) in omega arith,
    λ h. lt→ltb b a (of_units b a c y x C q p (omega arith)),
  )

  same_says : Says (a == b) (x ≡ y)
  same_says = (λ h. same_to_units a b c x y C p q (eqb→eq a b h), λ e. eq→eqb a b (same_of_units a b c x y C p q e))

  zero_says : Says (a == 0) (x ≡ 0)
  zero_says = (λ h. same_to_units a 0 c x 0 C p none (eqb→eq a 0 h), λ e. eq→eqb a 0 (same_of_units a 0 c x 0 C p none e))

  level_says : (s t : Bool) → Says (level s a t b) (cond s 0 x + cond t y 0 ≡ cond t 0 y + cond s x 0)
  level_says false false = (
    λ h. let e = same_says.0 (and_left (a == b) true h) in omega arith,
    λ h. and_in (a == b) true (same_says.1 (omega arith)) tt,
  )
  level_says true true = (
    λ h. let e = same_says.0 (and_left (a == b) true h) in omega arith,
    λ h. and_in (a == b) true (same_says.1 (omega arith)) tt,
  )
  level_says false true = (
    λ h. let e = same_says.0 (and_left (a == b) (a == 0) h) in let z = zero_says.0 (and_right (a == b) (a == 0) h) in omega arith,
    λ h. and_in (a == b) (a == 0) (same_says.1 (omega arith)) (zero_says.1 (omega arith)),
  )
  level_says true false = (
    λ h. let e = same_says.0 (and_left (a == b) (a == 0) h) in let z = zero_says.0 (and_right (a == b) (a == 0) h) in omega arith,
    λ h. and_in (a == b) (a == 0) (same_says.1 (omega arith)) (zero_says.1 (omega arith)),
  )

-- ---- the numerators that sums and comparisons of ±m * 2 ^ e and ±n * 2 ^ d use
module _ (s : Bool) (m : ℕ) (e : ℤ) (t : Bool) (n : ℕ) (d : ℤ) (fx : T (fits binary64 (fin s m e))) (fy : T (fits binary64 (fin t n d))) where
  pub num_x : m * up e * down d * U ≡ mag_units (fin s m e) * (down e * down d)
  num_x = scaled (m * up e) U (mag_units (fin s m e)) (down e) (down d) (has_value (fin s m e) fx tt).1

  pub num_y : n * up d * down e * U ≡ mag_units (fin t n d) * (down e * down d)
  num_y =
      scaled (n * up d) U (mag_units (fin t n d)) (down d) (down e) (has_value (fin t n d) fy tt).1
      ∙ ap (λ (z : ℕ). mag_units (fin t n d) * z) (mul_comm (down d) (down e))

pub common_pos : (e d : ℤ) → 0 < down e * down d
common_pos e d = mul-pos (down_pos e) (down_pos d)

-- ---- x < y, and x = y: of zeros the signs do not matter
tests_say : (x y : Float) → T (fits binary64 x) → T (fits binary64 y) → T (finite x) → T (finite y)
    → Says (lt x y) (Less x y) × Says (eq x y) (Equal x y)
unfolding lt eq
tests_say nan y fx fy ix iy = absurd ix
tests_say (inf s) y fx fy ix iy = absurd ix
tests_say (fin s m e) nan fx fy ix iy = absurd iy
tests_say (fin s m e) (inf t) fx fy ix iy = absurd iy
tests_say (fin s m e) (fin t n d) fx fy ix iy =
    let a = m * up e * down d in
    let b = n * up d * down e in
    let c = down e * down d in
    let x = mag_units (fin s m e) in
    let y = mag_units (fin t n d) in
    let p : a * U ≡ x * c = num_x s m e t n d fx fy in
    let q : b * U ≡ y * c = num_y s m e t n d fx fy in
    (below-says a b c x y (common_pos e d) p q s t, level_says a b c x y (common_pos e d) p q s t)

module _ (x y : Float) (fx : T (fits binary64 x)) (fy : T (fits binary64 y)) (ix : T (finite x)) (iy : T (finite y)) where
  pub lt_is : T (lt x y) → Less x y
  lt_is h = (tests_say x y fx fy ix iy).0.0 h

  pub is_lt : Less x y → T (lt x y)
  is_lt h = (tests_say x y fx fy ix iy).0.1 h

  -- where the test fails
  pub not-lt_is : lt x y ≡ false → AtMost y x
  not-lt_is h = le_of_suc-le-suc (lt_of_not-le (λ (g : suc (pos_units x + neg_units y) ≤ pos_units y + neg_units x). subst T h (is_lt g)))

  pub eq_is : T (eq x y) → Equal x y
  eq_is h = (tests_say x y fx fy ix iy).1.0 h

  pub is_eq : Equal x y → T (eq x y)
  is_eq h = (tests_say x y fx fy ix iy).1.1 h

  -- ---- x ≤ y
  pub le_is : T (le x y) → AtMost x y
  unfolding le
  le_is h =
      elim (or_cases (lt x y) (eq x y) h) [
        | inl l ↦ le_of_lt (lt_is l)
        | inr e ↦ le_of_eq (eq_is e)
      ]

  pub is_le : AtMost x y → T (le x y)
  unfolding le
  is_le h =
      elim (eq-or-lt_of_le h) [
        | inl e ↦ or_right (lt x y) (eq x y) (is_eq e)
        | inr l ↦ or_left (lt x y) (eq x y) (is_lt l)
      ]

-- ---- against zero
pub lt_zero : (x : Float) → T (fits binary64 x) → T (finite x) → T (lt x zero64) → (is_minus x ≡ true) × (0 < mag_units x)
lt_zero x f i t = go (is_minus x) (mag_units x) (mag_units zero64) zero_mag (lt_is x zero64 f zero-fits i tt t)
  where
    go : (s : Bool) (g o : ℕ) → o ≡ 0 → cond s 0 g + 0 < o + cond s g 0 → (s ≡ true) × (0 < g)
    go true g o e h = (refl, omega arith)
    go false g o e h = absurd (omega arith)

pub zero-lt : (x : Float) → T (fits binary64 x) → T (finite x) → T (lt zero64 x) → (is_minus x ≡ false) × (0 < mag_units x)
zero-lt x f i t = go (is_minus x) (mag_units x) (mag_units zero64) zero_mag (lt_is zero64 x zero-fits f tt i t)
  where
    go : (s : Bool) (g o : ℕ) → o ≡ 0 → o + cond s g 0 < cond s 0 g + 0 → (s ≡ false) × (0 < g)
    go false g o e h = (refl, omega arith)
    go true g o e h = absurd (omega arith)

pub eq_zero : (x : Float) → T (fits binary64 x) → T (finite x) → T (eq x zero64) → mag_units x ≡ 0
eq_zero x f i t = go (is_minus x) (mag_units x) (mag_units zero64) zero_mag (eq_is x zero64 f zero-fits i tt t)
  where
    go : (s : Bool) (g o : ℕ) → o ≡ 0 → cond s 0 g + 0 ≡ o + cond s g 0 → g ≡ 0
    go false g o e h = omega arith
    go true g o e h = omega arith

pub zero-eq : (x : Float) → T (fits binary64 x) → T (finite x) → mag_units x ≡ 0 → T (eq x zero64)
zero-eq x f i z = is_eq x zero64 f zero-fits i tt (go (is_minus x) (mag_units x) (mag_units zero64) zero_mag z)
  where
    go : (s : Bool) (g o : ℕ) → o ≡ 0 → g ≡ 0 → cond s 0 g + 0 ≡ o + cond s g 0
    go false g o e h = omega arith
    go true g o e h = omega arith

pub from_zero : (x : Float) → T (fits binary64 x) → T (finite x) → T (le zero64 x) → neg_units x ≡ 0
from_zero x f i t = go (is_minus x) (mag_units x) (mag_units zero64) zero_mag (le_is zero64 x zero-fits f tt i t)
  where
    go : (s : Bool) (g o : ℕ) → o ≡ 0 → o + cond s g 0 ≤ cond s 0 g + 0 → cond s g 0 ≡ 0
    go false g o e h = refl
    go true g o e h = omega arith

pub not-lt_zero : (x : Float) → T (fits binary64 x) → T (finite x) → lt x zero64 ≡ false → T (le zero64 x)
not-lt_zero x f i e = is_le zero64 x zero-fits f tt i (not-lt_is x zero64 f zero-fits i tt e)
