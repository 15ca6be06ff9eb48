-- The largest magnitude: no sample is larger, and one has it, where not all are zero. Assumes nothing.
use Rattle.std.specs.Prelude.{◌≡◌, refl, Bool, true, false, cond, ◌⊎◌, List, [], ◌∷◌, ℕ, ◌+◌, ◌≤◌, ◌<◌, T, Float}
use Rattle.std.proofs.Common.{sym, ◌∙◌, inl, inr, le_trans, le_of_eq, le_of_lt, le_refl, arith}
use Rattle.std.specs.Float.{binary64}
use Rattle.std.specs.Float.Ieee.{fits, lt}
use Rattle.std.specs.Float.Ieee.Scale.{finite}
use Rattle.laws.specs.Laws.Tests.{true_is}
use Rattle.float.specs.Value.{mag_units, is_minus, pos_units, neg_units, zero64}
use Rattle.float.specs.Calls.{abs_of}
use Rattle.float.specs.Laws.Exact.{Exactly, parts, zero-fits, zero_mag}
use Rattle.float.specs.Laws.Compare.{is_lt}
use Rattle.float.specs.Laws.Near.{abs-exactly, abs_over, abs-upto}
use Rattle.score.specs.Scale.{larger, largest_from, largest_of}
use Rattle.score.specs.Laws.Sample.{UpTo, Each, none, more}

-- ---- one of them has g units
pub data Has (g : ℕ) : List Float → Type 0 where
  here : {x : Float} {xs : List Float} → mag_units x ≡ g → Has g (x ∷ xs)
  there : {x : Float} {xs : List Float} → Has g xs → Has g (x ∷ xs)

-- a plain double: finite, and its sign is not minus
pub record Plain (x : Float) : Type 0 where
  pub fit : T (fits binary64 x)
  pub fin : T (finite x)
  pub sign : is_minus x ≡ false

pub above_zero : (s : Float) → Plain s → 0 < mag_units s → T (lt zero64 s)
above_zero s p h =
    let w = parts s false p.sign in
    is_lt zero64 s zero-fits p.fit tt p.fin (go (pos_units s) (neg_units s) (mag_units s) (mag_units zero64) w.0 w.1 zero_mag h)
  where
    go : (a b m z : ℕ) → a ≡ m → b ≡ 0 → z ≡ 0 → 0 < m → z + b < a + 0
    go a b m z i j k h = omega arith

-- ---- the larger of a and |x|
record Larger (a x r : Float) : Type 0 where
  plain : Plain r
  left : mag_units a ≤ mag_units r
  right : mag_units x ≤ mag_units r
  one : (mag_units r ≡ mag_units a) ⊎ (mag_units r ≡ mag_units x)

larger_is : (a x : Float) → Plain a → T (fits binary64 x) → T (finite x) → Larger a x (larger a (abs_of x))
larger_is a x p f i = go (lt a (abs_of x)) refl
  where
    b : Exactly (abs_of x) false (mag_units x)
    b = abs-exactly x f i

    go : (c : Bool) → lt a (abs_of x) ≡ c → Larger a x (cond c (abs_of x) a)
    go true e =
        record {
          plain = record { fit = b.fit; fin = b.fin; sign = b.sign };
          left = le_trans (le_of_lt (abs_over a x p.fit p.fin p.sign f i (true_is (lt a (abs_of x)) e))) (le_of_eq (sym b.mag));
          right = le_of_eq (sym b.mag);
          one = inr b.mag;
        }
    go false e =
        record {
          plain = p;
          left = le_refl (mag_units a);
          right = abs-upto a x p.fit p.fin p.sign f i e;
          one = inl refl;
        }

-- ---- the largest of a list, from a on
pub record Largest (a : Float) (xs : List Float) (r : Float) : Type 0 where
  pub plain : Plain r
  pub from : mag_units a ≤ mag_units r
  pub each : Each (UpTo (mag_units r)) xs
  pub one : (mag_units r ≡ mag_units a) ⊎ Has (mag_units r) xs

pub largest_from_lem : (g : ℕ) (a : Float) (xs : List Float) → Plain a → Each (UpTo g) xs → Largest a xs (largest_from a xs)
unfolding largest_from
largest_from_lem g a [] p none = record { plain = p; from = le_refl (mag_units a); each = none; one = inl refl }
largest_from_lem g a (x ∷ xs) p (more u e) =
    let l = larger_is a x p u.fit u.fin in
    let r = largest_from_lem g (larger a (abs_of x)) xs l.plain e in
    record {
      plain = r.plain;
      from = le_trans l.left r.from;
      each = more (record { fit = u.fit; fin = u.fin; le = le_trans l.right r.from }) r.each;
      one = elim r.one [
        | inl i ↦ elim l.one [
          | inl j ↦ inl (i ∙ j)
          | inr j ↦ inr (here (sym j ∙ sym i))
        ]
        | inr h ↦ inr (there h)
      ];
    }

-- from +0.0
pub largest_of_lem : (g : ℕ) (xs : List Float) → Each (UpTo g) xs → Largest zero64 xs (largest_of xs)
largest_of_lem g xs e = largest_from_lem g zero64 xs (record { fit = zero-fits; fin = tt; sign = refl }) e

-- one has it, where it is not zero
pub largest_met : (g : ℕ) (xs : List Float) → Each (UpTo g) xs → 0 < mag_units (largest_of xs) → Has (mag_units (largest_of xs)) xs
largest_met g xs e p =
    elim (largest_of_lem g xs e).one [
      | inl i ↦ absurd (clash (mag_units (largest_of xs)) (mag_units zero64) i zero_mag p)
      | inr h ↦ h
    ]
  where
    clash : (a b : ℕ) → a ≡ b → b ≡ 0 → 0 < a → ⊥
    clash a b i j h = omega arith

-- and it is no larger than a bound on all
pub largest-le : (g : ℕ) (xs : List Float) → Each (UpTo g) xs → Has (mag_units (largest_of xs)) xs → mag_units (largest_of xs) ≤ g
largest-le g xs e h = go xs e h
  where
    go : (ys : List Float) → Each (UpTo g) ys → Has (mag_units (largest_of xs)) ys → mag_units (largest_of xs) ≤ g
    go [] e h = elim h [ ]
    go (y ∷ ys) (more u e) (here i) = le_trans (le_of_eq (sym i)) u.le
    go (y ∷ ys) (more u e) (there h) = go ys e h
