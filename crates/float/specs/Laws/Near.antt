-- A double that is near an exact number. `Near c x p n e` says that x is finite and that |x * c - (p - n)| ≤ e, all in units.
-- The exact number is the difference of two natural numbers, so that sums and orders of such numbers are linear in natural numbers.
-- c is the scale: 1 for a plain value, U for a product of two, whose unit is 2 ^ -2148, 4 for a quarter.
-- (A step over U is a law on variables: `omega` takes no number of more than 38 digits.) Assumes nothing.
use Rattle.std.specs.Prelude.{◌≡◌, ℕ, zero, suc, ◌+◌, ◌*◌, ◌<◌, ◌≤◌, Bool, true, false, cond, T, pos, negsuc, refl, Float}
use Rattle.std.proofs.Common.{sym, ap, ◌∙◌, subst, le_trans, le_of_eq, lt_of_lt_of_le, lt_of_le_of_lt, not-le_of_lt, add-mul, mul-le-mul_right, lt_of_mul-lt-mul_right, mul-one, arith}
use Rattle.std.proofs.Math.Nat.{zero-mul}
use Rattle.std.specs.Float.{nan, inf, fin, binary64}
use Rattle.std.specs.Float.Ieee.{fits, lt, neg}
use Rattle.std.specs.Float.Ieee.Fits.{neg-fits}
use Rattle.std.specs.Float.Ieee.Scale.{finite}
use Rattle.laws.specs.Laws.Tests.{is_false}
use Rattle.laws.specs.Words.{gap}
use Rattle.float.specs.Value.{mag_units, is_minus, pos_units, neg_units, zero64}
use Rattle.float.specs.Calls.{abs_of}
use Rattle.float.specs.Laws.Exact.{zero-fits, parts, Exactly, neg-exactly}
use Rattle.float.specs.Laws.Compare.{lt_is, is_lt, not-lt_is}
use Rattle.float.specs.Laws.Error.{Off, half_ulp, Rounded}

pub record Near (c : ℕ) (x : Float) (p n e : ℕ) : Type 0 where
  pub fit : T (fits binary64 x)
  pub fin : T (finite x)
  pub lo : p + neg_units x * c ≤ pos_units x * c + n + e
  pub hi : pos_units x * c + n ≤ p + neg_units x * c + e

-- a value of the sign s whose magnitude is near v
pub near-signed : {c : ℕ} {x : Float} {v e : ℕ} (s : Bool) → T (fits binary64 x) → T (finite x) → is_minus x ≡ s → mag_units x * c ≤ v + e
    → v ≤ mag_units x * c + e → Near c x (cond s 0 v) (cond s v 0) e
near-signed {c} {x} {v} {e} s f i sign hi lo =
    let both = subst (λ (t : Bool). Both t s (mag_units x)) (sym sign) (go s (mag_units x) hi lo) in
    record { fit = f; fin = i; lo = both.0; hi = both.1 }
  where
    Both : Bool → Bool → ℕ → Type 0
    Both t s g =
        (cond s 0 v + cond t g 0 * c ≤ cond t 0 g * c + cond s v 0 + e) × (cond t 0 g * c + cond s v 0 ≤ cond s 0 v + cond t g 0 * c + e)

    go : (s : Bool) (g : ℕ) → g * c ≤ v + e → v ≤ g * c + e → Both s s g
    go false g h l = let z : 0 * c ≡ 0 = zero-mul c in (omega arith, omega arith)
    go true g h l = let z : 0 * c ≡ 0 = zero-mul c in (omega arith, omega arith)

-- what rounding leaves
pub rounded-near : {x : Float} {s : Bool} {v w b : ℕ} → Rounded x s v w b → Near w x (cond s 0 v) (cond s v 0) (half_ulp b * w)
rounded-near {s = s} r = near-signed s r.fit r.fin r.sign r.hi r.lo

-- a value is near itself
pub near_self : (x : Float) → T (fits binary64 x) → T (finite x) → Near 1 x (pos_units x) (neg_units x) 0
near_self x f i = record { fit = f; fin = i; lo = omega arith; hi = omega arith }

pub near_zero : (c : ℕ) → Near c zero64 0 0 0
near_zero c =
    record {
      fit = zero-fits;
      fin = tt;
      lo = unfold mag_units in omega (arith, zero-mul c);
      hi = unfold mag_units in omega (arith, zero-mul c);
    }

-- with a larger error
pub near-more : {c : ℕ} {x : Float} {p n e : ℕ} (k : ℕ) → Near c x p n e → e ≤ k → Near c x p n k
near-more k a h = record { fit = a.fit; fin = a.fin; lo = omega arith; hi = omega arith }

-- the same exact number as another difference
pub near_parts : {c : ℕ} {x : Float} {p n e : ℕ} (q m : ℕ) → Near c x p n e → p + m ≡ q + n → Near c x q m e
near_parts {c} {x} {p} {n} {e} q m a h =
    record {
      fit = a.fit;
      fin = a.fin;
      lo = lo (pos_units x * c) (neg_units x * c) a.lo;
      hi = hi (pos_units x * c) (neg_units x * c) a.hi;
    }
  where
    lo : (u v : ℕ) → p + v ≤ u + n + e → q + v ≤ u + m + e
    lo u v k = omega arith

    hi : (u v : ℕ) → u + n ≤ p + v + e → u + m ≤ q + v + e
    hi u v k = omega arith

-- the same in a finer unit
pub near-scale : {x : Float} {p n e : ℕ} (k : ℕ) → Near 1 x p n e → Near k x (p * k) (n * k) (e * k)
near-scale {x} {p} {n} {e} k a =
    record {
      fit = a.fit;
      fin = a.fin;
      lo = times p (neg_units x) (pos_units x) n (lo p (neg_units x) (pos_units x) n a.lo);
      hi = times (pos_units x) n p (neg_units x) (hi (pos_units x) n p (neg_units x) a.hi);
    }
  where
    lo : (p m q n : ℕ) → p + m * 1 ≤ q * 1 + n + e → p + m ≤ q + n + e
    lo p m q n h = omega arith

    hi : (q n p m : ℕ) → q * 1 + n ≤ p + m * 1 + e → q + n ≤ p + m + e
    hi q n p m h = omega arith

    times : (a b c d : ℕ) → a + b ≤ c + d + e → a * k + b * k ≤ c * k + d * k + e * k
    times a b c d h =
        le_trans (le_of_eq (sym (add-mul a b k)))
        (le_trans (mul-le-mul_right k h) (le_of_eq (add-mul (c + d) e k ∙ ap (λ (z : ℕ). z + e * k) (add-mul c d k))))

-- the negative of a value is near the negative
pub near-neg : {c : ℕ} {x : Float} {p n e : ℕ} → Near c x p n e → Near c (neg x) n p e
near-neg {c} {x} {p} {n} {e} a =
    let t = neg-exactly x a.fin in
    record {
      fit = neg-fits binary64 x a.fit;
      fin = t.2;
      lo = subst (λ (u : ℕ). n + u * c ≤ pos_units (neg x) * c + p + e) (sym t.1)
          (subst (λ (u : ℕ). n + pos_units x * c ≤ u * c + p + e) (sym t.0) (turn (pos_units x * c) n p (neg_units x * c) a.hi));
      hi = subst (λ (u : ℕ). pos_units (neg x) * c + p ≤ n + u * c + e) (sym t.1)
          (subst (λ (u : ℕ). u * c + p ≤ n + pos_units x * c + e) (sym t.0) (turn p (neg_units x * c) (pos_units x * c) n a.lo));
    }
  where
    turn : (i j k l : ℕ) → i + j ≤ k + l + e → j + i ≤ l + k + e
    turn i j k l h = omega arith

-- ---- the magnitude of a value near p - n is near |p - n|
mags : {c : ℕ} {x : Float} {p n e : ℕ} → Near c x p n e → Off e (mag_units x * c) (gap p n)
mags {c} {x} {p} {n} {e} a = go (is_minus x) (mag_units x) a.lo a.hi
  where
    go : (s : Bool) (g : ℕ) → p + cond s g 0 * c ≤ cond s 0 g * c + n + e → cond s 0 g * c + n ≤ p + cond s g 0 * c + e
        → Off e (g * c) (gap p n)
    go false g lo hi = let z : 0 * c ≡ 0 = zero-mul c in (omega arith, omega arith)
    go true g lo hi = let z : 0 * c ≡ 0 = zero-mul c in (omega arith, omega arith)

pub near_mag : {c : ℕ} {x : Float} {p n e : ℕ} → Near c x p n e → mag_units x * c ≤ gap p n + e
near_mag a = (mags a).0

-- the same of a plain value, where the scale is 1, and the other way round
pub near_mag-plain : {x : Float} {p n e : ℕ} → Near 1 x p n e → mag_units x ≤ gap p n + e
near_mag-plain {x} a = le_trans (le_of_eq (sym (mul-one (mag_units x)))) (near_mag a)

pub mag_near-plain : {x : Float} {p n e : ℕ} → Near 1 x p n e → gap p n ≤ mag_units x + e
mag_near-plain {x} {e = e} a = le_trans (mags a).1 (le_of_eq (ap (λ (g : ℕ). g + e) (mul-one (mag_units x))))

-- ---- |x|
pub abs-exactly : (x : Float) → T (fits binary64 x) → T (finite x) → Exactly (abs_of x) false (mag_units x)
unfolding abs_of mag_units fits
abs-exactly nan f i = absurd i
abs-exactly (inf s) f i = absurd i
abs-exactly (fin s zero (pos k)) f i = record { fit = f; fin = tt; sign = refl; mag = refl }
abs-exactly (fin s zero (negsuc k)) f i = record { fit = f; fin = tt; sign = refl; mag = refl }
abs-exactly (fin s (suc m) (pos k)) f i = record { fit = f; fin = tt; sign = refl; mag = refl }
abs-exactly (fin s (suc m) (negsuc k)) f i = record { fit = f; fin = tt; sign = refl; mag = refl }

-- the test |x| > l, for an l that is not negative
module _ (l x : Float) (fl : T (fits binary64 l)) (il : T (finite l)) (sl : is_minus l ≡ false) (fx : T (fits binary64 x)) (ix : T (finite x)) where
  pub abs_over : T (lt l (abs_of x)) → mag_units l < mag_units x
  abs_over t =
      let a = abs-exactly x fx ix in
      let p = parts l false sl in
      let q = parts (abs_of x) false a.sign in
      go (pos_units l) (neg_units l) (pos_units (abs_of x)) (neg_units (abs_of x)) p.0 p.1 (q.0 ∙ a.mag) q.1
      (lt_is l (abs_of x) fl a.fit il a.fin t)
    where
      go : (pl nl px nx : ℕ) → pl ≡ mag_units l → nl ≡ 0 → px ≡ mag_units x → nx ≡ 0 → pl + nx < px + nl → mag_units l < mag_units x
      go pl nl px nx a b c d h = omega arith

  pub abs-upto : lt l (abs_of x) ≡ false → mag_units x ≤ mag_units l
  abs-upto h =
      let a = abs-exactly x fx ix in
      let p = parts l false sl in
      let q = parts (abs_of x) false a.sign in
      go (pos_units l) (neg_units l) (pos_units (abs_of x)) (neg_units (abs_of x)) p.0 p.1 (q.0 ∙ a.mag) q.1
      (not-lt_is l (abs_of x) fl a.fit il a.fin h)
    where
      go : (pl nl px nx : ℕ) → pl ≡ mag_units l → nl ≡ 0 → px ≡ mag_units x → nx ≡ 0 → px + nl ≤ pl + nx → mag_units x ≤ mag_units l
      go pl nl px nx a b c d h = omega arith

  pub upto-abs : mag_units x ≤ mag_units l → lt l (abs_of x) ≡ false
  upto-abs h = is_false (lt l (abs_of x)) (λ t. not-le_of_lt (abs_over t) h)

pub near-abs : {c : ℕ} {x : Float} {p n e : ℕ} → Near c x p n e → Near c (abs_of x) (gap p n) 0 e
near-abs {c} {x} {p} {n} {e} a =
    let b = abs-exactly x a.fit a.fin in
    let m : Off e (mag_units (abs_of x) * c) (gap p n) = subst (λ (g : ℕ). Off e (g * c) (gap p n)) (sym b.mag) (mags a) in
    near-signed false b.fit b.fin b.sign m.0 m.1

-- ---- a comparison of two values whose exact numbers are further apart than their errors
pub near-lt : {c : ℕ} {x y : Float} {p q e f : ℕ} → Near c x p 0 e → Near c y q 0 f → p + e + f < q → T (lt x y)
near-lt {c} {x} {y} {p} {q} {e} {f} a b h =
    is_lt x y a.fit b.fit a.fin b.fin
    (lt_of_mul-lt-mul_right c
    (lt_of_le_of_lt (le_of_eq (add-mul (pos_units x) (neg_units y) c))
    (lt_of_lt_of_le (go (pos_units x * c) (neg_units x * c) (pos_units y * c) (neg_units y * c) a.hi b.lo)
    (le_of_eq (sym (add-mul (pos_units y) (neg_units x) c))))))
  where
    go : (px nx py ny : ℕ) → px + 0 ≤ p + nx + e → q + ny ≤ py + 0 + f → px + ny < py + nx
    go px nx py ny u v = omega arith
