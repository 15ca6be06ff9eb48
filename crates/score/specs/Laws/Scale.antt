-- How large the scale is that comes of a largest magnitude and a norm: one 15.9th of the largest magnitude at least, once it is 32 units or more,
-- and at most 0.324 of it, but for two units. Assumes nothing.
use Rattle.std.specs.Prelude.{◌≡◌, refl, Bool, false, ℕ, ◌+◌, ◌*◌, ◌^◌, ◌≤◌, ◌<◌, Float}
use Rattle.std.proofs.Common.{sym, ap, ap₂, ◌∙◌, subst, le_refl, le_trans, le_of_eq, lt_of_lt_of_le, lt_of_le_of_lt, add-le-add, mul_comm, mul_assoc, mul_left_comm, mul-add, add-mul, one-mul, mul-le-mul, mul-le-mul_left, mul-le-mul_right, le_of_mul-le-mul_right, arith, lit≤, pow_pos}
use Rattle.std.specs.Float.{binary64}
use Rattle.std.specs.Float.Ieee.{fits, mul, unlike, of_bits, round, size}
use Rattle.float.specs.Value.{U, mag_units}
use Rattle.float.specs.Laws.Relative.{Close, mul-close, div-close}
use Rattle.root.specs.Root.{whole_root, root_units, root_of, rooted}
use Rattle.score.specs.Samples.{limit64}
use Rattle.score.specs.Scale.{alpha64, ratio64, root24, scale_with, second_scale}
use Rattle.score.specs.Laws.Largest.{Plain}
use Rattle.score.specs.Laws.Norm.{Norm}

-- ---- the constants
-- the root of 24.0
pub root24_is : root24 ≡ of_bits binary64 0x4013_988e_1409_212e
unfolding root24 rooted root_of root_units whole_root mag_units of_bits round size
root24_is = refl

record Constant (x : Float) (low high over : ℕ) : Type 0 where
  plain : Plain x
  lo : low * U ≤ over * mag_units x
  hi : over * mag_units x ≤ high * U

alpha_is : Constant alpha64 3217 3219 10000
unfolding fits mag_units
alpha_is = record { plain = record { fit = tt; fin = tt; sign = refl }; lo = lit≤ tt; hi = lit≤ tt }

ratio_is : Constant ratio64 113 115 100
unfolding fits mag_units
ratio_is = record { plain = record { fit = tt; fin = tt; sign = refl }; lo = lit≤ tt; hi = lit≤ tt }

root_of_24 : Constant (of_bits binary64 0x4013_988e_1409_212e) 4898 4899 1000
unfolding fits mag_units of_bits
root_of_24 = record { plain = record { fit = tt; fin = tt; sign = refl }; lo = lit≤ tt; hi = lit≤ tt }

root24_const : Constant root24 4898 4899 1000
root24_const = subst (λ (x : Float). Constant x 4898 4899 1000) (sym root24_is) root_of_24

limit-le : mag_units limit64 ≤ 2 ^ 2040
unfolding mag_units
limit-le = lit≤ tt

-- ---- a fraction a, and what it is rounded to, c, in units of u
pub at_least : (a c u : ℕ) → a * 2 ^ 53 ≤ c * 2 ^ 53 + a + 2 ^ 52 * u → 999 * a ≤ 1000 * c + 500 * u
at_least a c u h = omega arith

at_most : (a c u : ℕ) → c * 2 ^ 53 ≤ a * 2 ^ 53 + a + 2 ^ 52 * u → c ≤ 2 * a + u
at_most a c u h = omega arith

at_most-fine : (a c u : ℕ) → c * 2 ^ 53 ≤ a * 2 ^ 53 + a + 2 ^ 52 * u → 1000 * c ≤ 1001 * a + 500 * u
at_most-fine a c u h = omega arith

pub cancel : (i j k x y u : ℕ) → 0 < u → i * (x * u) ≤ j * (y * u) + k * u → i * x ≤ j * y + k
cancel i j k x y u P h =
    le_of_mul-le-mul_right
    (le_trans (le_of_eq (mul_assoc i x u))
    (le_trans h (le_of_eq (ap (λ (z : ℕ). z + k * u) (sym (mul_assoc j y u)) ∙ sym (add-mul (j * y) k u)))))
    P

cancel1 : (j k x y u : ℕ) → 0 < u → x * u ≤ j * (y * u) + k * u → x ≤ j * y + k
cancel1 j k x y u P h = le_trans (le_of_eq (sym (one-mul x))) (cancel 1 j k x y u P (le_trans (le_of_eq (one-mul (x * u))) h))

-- z is x * y, rounded, in units of u, for a y that is i / j or more: what it is to x
product_low : (i j x y z u : ℕ) → 0 < u → i * u ≤ j * y → x * y * 2 ^ 53 ≤ z * u * 2 ^ 53 + x * y + 2 ^ 52 * u
    → 999 * i * x ≤ 1000 * j * z + 500 * j
product_low i j x y z u P f c =
    cancel (999 * i) (1000 * j) (500 * j) x z u P
    (le_trans (le_of_eq (mul_assoc 999 i (x * u)))
    (le_trans (mul-le-mul_left 999 (le_trans (le_of_eq (mul_left_comm i x u)) (mul-le-mul_left x f)))
    (le_trans (le_of_eq (ap (λ (n : ℕ). 999 * n) (mul_left_comm x j y) ∙ mul_left_comm 999 j (x * y)))
    (le_trans (mul-le-mul_left j (at_least (x * y) (z * u) u c)) (le_of_eq spread)))))
  where
    spread : j * (1000 * (z * u) + 500 * u) ≡ 1000 * j * (z * u) + 500 * j * u
    spread =
        mul-add j (1000 * (z * u)) (500 * u)
        ∙ ap₂ (λ (m n : ℕ). m + n) (mul_left_comm j 1000 (z * u) ∙ sym (mul_assoc 1000 j (z * u)))
        (mul_left_comm j 500 u ∙ sym (mul_assoc 500 j u))

-- and for a y that is i / j or less
product_high : (i j x y z u : ℕ) → 0 < u → j * y ≤ i * u → z * u * 2 ^ 53 ≤ x * y * 2 ^ 53 + x * y + 2 ^ 52 * u
    → 1000 * j * z ≤ 1001 * i * x + 500 * j
product_high i j x y z u P f c =
    cancel (1000 * j) (1001 * i) (500 * j) z x u P
    (le_trans (le_of_eq (ap (λ (n : ℕ). n * (z * u)) (mul_comm 1000 j) ∙ mul_assoc j 1000 (z * u)))
    (le_trans (mul-le-mul_left j (at_most-fine (x * y) (z * u) u c))
    (le_trans (le_of_eq (mul-add j (1001 * (x * y)) (500 * u)))
    (add-le-add
    (le_trans (le_of_eq (mul_left_comm j 1001 (x * y) ∙ ap (λ (n : ℕ). 1001 * n) (mul_left_comm j x y)))
    (le_trans (mul-le-mul_left 1001 (mul-le-mul_left x f))
    (le_of_eq (ap (λ (n : ℕ). 1001 * n) (mul_left_comm x i u) ∙ sym (mul_assoc 1001 i (x * u))))))
    (le_of_eq (mul_left_comm j 500 u ∙ sym (mul_assoc 500 j u)))))))

-- ---- a scale derived from a largest magnitude of g units
pub record Derived (g : ℕ) (s : Float) : Type 0 where
  pub plain : Plain s
  pub top : mag_units s ≤ 2 ^ 2060
  pub keeps : 32 ≤ mag_units s → 10 * g ≤ 159 * mag_units s
  pub large : 2 ^ 20 ≤ g → 32 ≤ mag_units s

-- ALPHA * m, then times n, then over the root of 24
module _ (m n : Float) (p : Plain m) (L : mag_units m ≤ mag_units limit64) (q : Norm n) where
  abbrev first : Float
  first = mul binary64 alpha64 m

  abbrev second : Float
  second = mul binary64 first n

  alpha-le : mag_units alpha64 ≤ U
  alpha-le = go (mag_units alpha64) U alpha_is.hi
    where
      go : (a u : ℕ) → 10000 * a ≤ 3219 * u → a ≤ u
      go a u h = omega arith

  root_ge : U ≤ mag_units root24
  root_ge = go (mag_units root24) U root24_const.lo
    where
      go : (a u : ℕ) → 4898 * u ≤ 1000 * a → u ≤ a
      go a u h = omega arith

  n-le : mag_units n ≤ 16 * U
  n-le = go (mag_units n) U q.high
    where
      go : (a u : ℕ) → 32 * a ≤ 157 * u → a ≤ 16 * u
      go a u h = omega arith

  m-le : mag_units m ≤ 2 ^ 2040
  m-le = le_trans L limit-le

  first_is : Close first false (mag_units m * mag_units alpha64) U
  first_is =
      let room : U * 2 ^ 2040 < 2 ^ 2097 * U = lit≤ tt in
      subst (λ (v : ℕ). Close first false v U) (mul_comm (mag_units alpha64) (mag_units m))
      (subst (λ (s : Bool). Close first s (mag_units alpha64 * mag_units m) U) (ap (unlike false) p.sign)
      (mul-close alpha64 m alpha_is.plain.fit p.fit tt p.fin (lt_of_le_of_lt (mul-le-mul alpha-le m-le) room)))

  first_low : 999 * 3217 * mag_units m ≤ 1000 * 10000 * mag_units first + 500 * 10000
  first_low = product_low 3217 10000 (mag_units m) (mag_units alpha64) (mag_units first) U (pow_pos 1074) alpha_is.lo first_is.lo

  first_most : 1000 * 10000 * mag_units first ≤ 1001 * 3219 * mag_units m + 500 * 10000
  first_most = product_high 3219 10000 (mag_units m) (mag_units alpha64) (mag_units first) U (pow_pos 1074) alpha_is.hi first_is.hi

  first_high : mag_units first ≤ 2 ^ 2042
  first_high =
      let room : 2 * 2 ^ 2040 + 1 ≤ 2 ^ 2042 = lit≤ tt in
      le_trans
      (cancel1 2 1 (mag_units first) (mag_units m) U (pow_pos 1074)
      (le_trans (at_most (mag_units m * mag_units alpha64) (mag_units first * U) U first_is.hi)
      (add-le-add (mul-le-mul_left 2 (mul-le-mul_left (mag_units m) alpha-le)) (le_of_eq (sym (one-mul U))))))
      (le_trans (add-le-add (mul-le-mul_left 2 m-le) (le_refl 1)) room)

  second_is : Close second false (mag_units first * mag_units n) U
  second_is =
      let room : 2 ^ 2042 * (16 * U) < 2 ^ 2097 * U = lit≤ tt in
      subst (λ (s : Bool). Close second s (mag_units first * mag_units n) U) (ap₂ unlike first_is.sign q.plain.sign)
      (mul-close first n first_is.fit q.plain.fit first_is.fin q.plain.fin (lt_of_le_of_lt (mul-le-mul first_high n-le) room))

  second_low : 999 * 999 * mag_units first ≤ 1000 * 1000 * mag_units second + 500 * 1000
  second_low = product_low 999 1000 (mag_units first) (mag_units n) (mag_units second) U (pow_pos 1074) q.low second_is.lo

  second_most : 1000 * 32 * mag_units second ≤ 1001 * 157 * mag_units first + 500 * 32
  second_most = product_high 157 32 (mag_units first) (mag_units n) (mag_units second) U (pow_pos 1074) q.high second_is.hi

  second_high : mag_units second ≤ 2 ^ 2048
  second_high =
      let room : 32 * 2 ^ 2042 + 1 ≤ 2 ^ 2048 = lit≤ tt in
      le_trans
      (cancel1 32 1 (mag_units second) (mag_units first) U (pow_pos 1074)
      (le_trans (at_most (mag_units first * mag_units n) (mag_units second * U) U second_is.hi)
      (go (mag_units first * mag_units n) (mag_units first * U) U
      (le_trans (mul-le-mul_left (mag_units first) n-le) (le_of_eq (mul_left_comm (mag_units first) 16 U))))))
      (le_trans (add-le-add (mul-le-mul_left 32 first_high) (le_refl 1)) room)
    where
      go : (a b u : ℕ) → a ≤ 16 * b → 2 * a + u ≤ 32 * b + 1 * u
      go a b u h = omega arith

  abbrev scale : Float
  scale = scale_with m n

  scale_is : Close scale false (mag_units second * U) (mag_units root24)
  scale_is =
      let room : 2 ^ 2048 * U < 2 ^ 2097 * U = lit≤ tt in
      subst (λ (s : Bool). Close scale s (mag_units second * U) (mag_units root24)) (ap₂ unlike second_is.sign root24_const.plain.sign)
      (div-close second root24 second_is.fit root24_const.plain.fit second_is.fin root24_const.plain.fin
      (lt_of_lt_of_le (pow_pos 1074) root_ge)
      (lt_of_le_of_lt (mul-le-mul_right U second_high) (lt_of_lt_of_le room (mul-le-mul_left (2 ^ 2097) root_ge))))

  scale_low : 999 * mag_units second ≤ 4900 * mag_units scale + 2450
  scale_low =
      cancel 999 4900 2450 (mag_units second) (mag_units scale) U (pow_pos 1074)
      (go (mag_units second * U) (mag_units scale * mag_units root24) (mag_units scale * U) (mag_units root24) U
      (le_trans (le_of_eq (mul_left_comm 1000 (mag_units scale) (mag_units root24)))
      (le_trans (mul-le-mul_left (mag_units scale) root24_const.hi) (le_of_eq (mul_left_comm (mag_units scale) 4899 U))))
      root24_const.hi
      (at_least (mag_units second * U) (mag_units scale * mag_units root24) (mag_units root24) scale_is.lo))
    where
      go : (a sr su r u : ℕ) → 1000 * sr ≤ 4899 * su → 1000 * r ≤ 4899 * u → 999 * a ≤ 1000 * sr + 500 * r → 999 * a ≤ 4900 * su + 2450 * u
      go a sr su r u h k l = omega arith

  scale_most : 4898 * mag_units scale ≤ 1001 * mag_units second + 2450
  scale_most =
      cancel 4898 1001 2450 (mag_units scale) (mag_units second) U (pow_pos 1074)
      (go (mag_units second * U) (mag_units scale * mag_units root24) (mag_units scale * U) (mag_units root24) U
      (le_trans (le_of_eq (mul_left_comm 4898 (mag_units scale) U))
      (le_trans (mul-le-mul_left (mag_units scale) root24_const.lo) (le_of_eq (mul_left_comm (mag_units scale) 1000 (mag_units root24)))))
      root24_const.hi
      (at_most-fine (mag_units second * U) (mag_units scale * mag_units root24) (mag_units root24) scale_is.hi))
    where
      go : (a sr su r u : ℕ) → 4898 * su ≤ 1000 * sr → 1000 * r ≤ 4899 * u → 1000 * sr ≤ 1001 * a + 500 * r → 4898 * su ≤ 1001 * a + 2450 * u
      go a sr su r u h k l = omega arith

  scale_high : mag_units scale ≤ 2 ^ 2050
  scale_high =
      let room : 2 * 2 ^ 2048 + 1 ≤ 2 ^ 2050 = lit≤ tt in
      le_trans
      (cancel1 2 1 (mag_units scale) (mag_units second) (mag_units root24) (lt_of_lt_of_le (pow_pos 1074) root_ge)
      (le_trans (at_most (mag_units second * U) (mag_units scale * mag_units root24) (mag_units root24) scale_is.hi)
      (add-le-add (mul-le-mul_left 2 (mul-le-mul_left (mag_units second) root_ge)) (le_of_eq (sym (one-mul (mag_units root24)))))))
      (le_trans (add-le-add (mul-le-mul_left 2 second_high) (le_refl 1)) room)

  pub derived : Derived (mag_units m) (scale_with m n)
  derived =
      let room : 2 ^ 2050 ≤ 2 ^ 2060 = lit≤ tt in
      record {
        plain = record { fit = scale_is.fit; fin = scale_is.fin; sign = scale_is.sign };
        top = le_trans scale_high room;
        keeps = keeps (mag_units m) (mag_units first) (mag_units second) (mag_units scale) first_low second_low scale_low;
        large = large (mag_units m) (mag_units first) (mag_units second) (mag_units scale) first_low second_low scale_low;
      }
    where
      keeps : (m a b s : ℕ) → 999 * 3217 * m ≤ 1000 * 10000 * a + 500 * 10000 → 999 * 999 * a ≤ 1000 * 1000 * b + 500 * 1000
          → 999 * b ≤ 4900 * s + 2450 → 32 ≤ s → 10 * m ≤ 159 * s
      keeps m a b s x y z h = omega arith

      large : (m a b s : ℕ) → 999 * 3217 * m ≤ 1000 * 10000 * a + 500 * 10000 → 999 * 999 * a ≤ 1000 * 1000 * b + 500 * 1000
          → 999 * b ≤ 4900 * s + 2450 → 2 ^ 20 ≤ m → 32 ≤ s
      large m a b s x y z h = omega arith

  -- and from above
  pub derived_most : 1000 * mag_units scale ≤ 324 * mag_units m + 2000
  derived_most = most (mag_units m) (mag_units first) (mag_units second) (mag_units scale) first_most second_most scale_most
    where
      most : (m a b s : ℕ) → 1000 * 10000 * a ≤ 1001 * 3219 * m + 500 * 10000 → 1000 * 32 * b ≤ 1001 * 157 * a + 500 * 32
          → 4898 * s ≤ 1001 * b + 2450 → 1000 * s ≤ 324 * m + 2000
      most m a b s x y z = omega arith

-- ---- the second scale is no smaller
pub record Second (s z : Float) : Type 0 where
  pub plain : Plain z
  pub more : mag_units s ≤ mag_units z

pub second_grows : (s : Float) → Plain s → mag_units s ≤ 2 ^ 2060 → 32 ≤ mag_units s → Second s (second_scale s)
second_grows s p t h =
    let z = second_scale s in
    let room : 2 ^ 2060 * (2 * U) < 2 ^ 2097 * U = lit≤ tt in
    let c : Close z false (mag_units s * mag_units ratio64) U =
    subst (λ (b : Bool). Close z b (mag_units s * mag_units ratio64) U) (ap (λ (b : Bool). unlike b false) p.sign)
    (mul-close s ratio64 p.fit ratio_is.plain.fit p.fin tt
    (lt_of_le_of_lt (mul-le-mul t (twice (mag_units ratio64) U ratio_is.hi)) room)) in
    let low : 999 * 113 * mag_units s ≤ 1000 * 100 * mag_units z + 500 * 100 =
    product_low 113 100 (mag_units s) (mag_units ratio64) (mag_units z) U (pow_pos 1074) ratio_is.lo c.lo in
    record { plain = record { fit = c.fit; fin = c.fin; sign = c.sign }; more = grows (mag_units s) (mag_units z) low h }
  where
    twice : (a u : ℕ) → 100 * a ≤ 115 * u → a ≤ 2 * u
    twice a u h = omega arith

    grows : (s z : ℕ) → 999 * 113 * s ≤ 1000 * 100 * z + 500 * 100 → 32 ≤ s → s ≤ z
    grows s z l h = omega arith

pub record Kept (g : ℕ) (s : Float) : Type 0 where
  pub plain : Plain s
  pub some : 32 ≤ mag_units s
  pub keeps : 10 * g ≤ 159 * mag_units s

pub kept-first : {g : ℕ} {s : Float} → Derived g s → 32 ≤ mag_units s → Kept g s
kept-first d h = record { plain = d.plain; some = h; keeps = d.keeps h }

pub kept_second : {g : ℕ} {s : Float} → Derived g s → 32 ≤ mag_units s → Kept g (second_scale s)
kept_second {g} {s} d h =
    let z = second_grows s d.plain d.top h in
    record { plain = z.plain; some = le_trans h z.more; keeps = le_trans (d.keeps h) (mul-le-mul_left 159 z.more) }
