-- What the number 0 says of a call at a scale: its quotients are an accepted target, 24 finite doubles of at most a million in size. And the
-- scales which `encode` derives are doubles. An array of samples holds 24 doubles, which is what `length` and `AllFit` say here. Assumes nothing.
use Rattle.std.specs.Prelude.{◌≡◌, refl, Bool, true, false, cond, not, List, [], ◌∷◌, ℕ, zero, suc, ◌+◌, ◌*◌, ◌^◌, ◌≤◌, ◌<◌, T, ltb, eqb, length, get_or, Float}
use Rattle.std.proofs.Common.{sym, ◌∙◌, subst, le_of_suc-le-suc, not-suc-le-zero, arith, eqb-true}
use Rattle.std.proofs.lemmas.Bool.{eqb-false}
use Rattle.std.specs.Float.{nan, inf, fin, binary64}
use Rattle.std.specs.Float.Ieee.{fits, div, lt, eq, is_nan, round, odd, units, low, emax, prec}
use Rattle.std.specs.Float.Ieee.Fits.{round_is, mul-fits, div-fits}
use Rattle.std.specs.Float.Ieee.Scale.{finite}
use Rattle.laws.specs.Laws.Tests.{and_left, and_right}
use Rattle.float.specs.Value.{U, mag_units, zero64}
use Rattle.float.specs.Calls.{abs_of, million64, quotients_of}
use Rattle.float.specs.Laws.Compare.{zero-lt}
use Rattle.float.specs.Laws.Exact.{zero-fits}
use Rattle.float.specs.Laws.Arithmetic.{div-fraction}
use Rattle.float.specs.Laws.Near.{abs-upto}
use Rattle.float.specs.Laws.Rounding.{million_units, million-fits}
use Rattle.float.specs.Laws.Arrays.{quotients-length, quotients-at}
use Rattle.score.specs.Samples.{AllFit, exceeds, some, sample_number, is_scale, or_else, scale_number}
use Rattle.score.specs.Scale.{Measured, root24, largest_of, unit_norm, scale_with, is_normal, lower_scale, choice_of, first_scale, second_scale}
use Rattle.score.specs.declared.Choice.TheVariants.{Zero, Scale, Divide}
use Rattle.score.specs.Laws.Sample.{Sample, each_at, some_cons, samples_are}
use Rattle.members.specs.Accepted.{Accepted}

-- ---- what the number 0 says at a scale
scale-says : (x : List Float) (s : Float) → scale_number x s ≡ 0
    → T (is_scale s) × (sample_number x ≡ 0) × (some (exceeds million64) (quotients_of x s) ≡ false)
unfolding scale_number
scale-says x s = go (is_scale s) (sample_number x) (some (exceeds million64) (quotients_of x s))
  where
    by : (k : ℕ) (t : Bool) → eqb k 0 ≡ t → (b : Bool) → cond t (cond b 4 0) k ≡ 0 → (k ≡ 0) × (b ≡ false)
    by k true h true e = absurd (omega arith)
    by k true h false e = (eqb-true k 0 h, refl)
    by k false h b e = absurd (eqb-false k 0 h e)

    go : (a : Bool) (k : ℕ) (b : Bool) → cond a (or_else k (cond b 4 0)) 3 ≡ 0 → T a × (k ≡ 0) × (b ≡ false)
    go false k b e = absurd (omega arith)
    go true k b e = let r = by k (eqb k 0) refl b e in (tt, r.0, r.1)

some_at : (f : Float → Bool) (xs : List Float) → some f xs ≡ false → (k : ℕ) → k < length xs → f (get_or xs k nan) ≡ false
some_at f [] e k h = absurd (not-suc-le-zero h)
some_at f (x ∷ xs) e zero h = (some_cons f x xs e).0
some_at f (x ∷ xs) e (suc k) h = some_at f xs (some_cons f x xs e).1 k (le_of_suc-le-suc h)

-- ---- a rounded fraction is a number or an infinity
odd_number : (d : ℕ) (s : Bool) (q k l : ℕ) → T (not (is_nan (odd d s q k l)))
unfolding odd is_nan
odd_number d s zero k l = tt
odd_number d s (suc q) k l = tt

units_number : (s : Bool) (q k : ℕ) → T (not (is_nan (units binary64 s q k)))
unfolding units is_nan
units_number s q k = go (ltb (q * 2 ^ k) (2 ^ (low binary64 + suc (emax binary64))))
  where
    go : (b : Bool) → T (not (is_nan (cond b (odd (suc (prec binary64)) s q k (low binary64)) (inf s))))
    go true = odd_number (suc (prec binary64)) s q k (low binary64)
    go false = tt

round_number : (s : Bool) (a c : ℕ) → T (not (is_nan (round binary64 s a c)))
round_number s a c = subst (λ (q : Float). T (not (is_nan q))) (sym (round_is binary64 s a c)) (units_number s _ _)

-- one that is not above a million in magnitude is finite
not_above : (q : Float) → T (not (is_nan q)) → lt million64 (abs_of q) ≡ false → T (finite q)
unfolding is_nan lt abs_of
not_above nan n e = absurd n
not_above (inf s) n e = subst T e tt
not_above (fin s m k) n e = tt

-- ---- so the quotient of an accepted sample by an accepted scale is finite
quotient-finite : (x s : Float) → T (fits binary64 x) → T (fits binary64 s) → T (finite x) → T (finite s) → T (lt zero64 s)
    → lt million64 (abs_of (div binary64 x s)) ≡ false → T (finite (div binary64 x s))
quotient-finite x s fx fs ix is p e =
    let f = div-fraction x s fx fs ix is (zero-lt s fs is p).1 in
    not_above (div binary64 x s) (subst (λ (q : Float). T (not (is_nan q))) (sym f.is) (round_number _ f.num f.den)) e

-- ---- the quotients of an accepted call
pub accepted : (x : List Float) (s : Float) → length x ≡ 24 → AllFit x → T (fits binary64 s) → scale_number x s ≡ 0 → Accepted (quotients_of x s)
accepted x s l f fs e =
    record {
      target = record {
        size = quotients-length x s ∙ l;
        double = λ j h. at j h (λ q. T (fits binary64 q)) (fit j);
        bounded = λ j h. at j h (λ q. T (finite q)) (fin' j h);
      };
      low = λ j h. at j h (λ q. mag_units q ≤ 1000000 * U)
          (subst (λ (m : ℕ). mag_units (div binary64 (get_or x j nan) s) ≤ m) million_units
          (abs-upto million64 (div binary64 (get_or x j nan) s) million-fits tt refl (fit j) (fin' j h) (small j h)));
    }
  where
    says : T (is_scale s) × (sample_number x ≡ 0) × (some (exceeds million64) (quotients_of x s) ≡ false)
    says = scale-says x s e

    up : (j : ℕ) → j < 24 → j < length x
    up j h = subst (λ (n : ℕ). j < n) (sym l) h

    at : (j : ℕ) → j < 24 → (Q : Float → Type 0) → Q (div binary64 (get_or x j nan) s) → Q (get_or (quotients_of x s) j nan)
    at j h Q q = subst Q (sym (quotients-at x s j (up j h))) q

    fit : (j : ℕ) → T (fits binary64 (div binary64 (get_or x j nan) s))
    fit j = div-fits binary64 (get_or x j nan) s

    small : (j : ℕ) → j < 24 → lt million64 (abs_of (div binary64 (get_or x j nan) s)) ≡ false
    small j h = subst (λ (q : Float). lt million64 (abs_of q) ≡ false) (quotients-at x s j (up j h))
        (some_at (exceeds million64) (quotients_of x s) says.2 j (subst (λ (n : ℕ). j < n) (sym (quotients-length x s)) (up j h)))

    fin' : (j : ℕ) → j < 24 → T (finite (div binary64 (get_or x j nan) s))
    fin' j h =
        quotient-finite (get_or x j nan) s (f j) fs (each_at Sample x (samples_are x f says.1) j (up j h)).fin
        (and_left (finite s) (lt zero64 s) says.0) (and_right (finite s) (lt zero64 s) says.0) (small j h)

-- ---- the scales that `encode` derives are doubles, and so are samples that were divided
lower-fits : (x : List Float) → T (fits binary64 (lower_scale x).scale)
unfolding lower_scale
lower-fits x = go (eq (largest_of x) zero64)
  where
    m : Float
    m = largest_of x

    go : (b : Bool) → T (fits binary64 (cond {A = Measured} b (record { number = 0; largest = zero64; scale = zero64 })
        (record { number = 0; largest = m; scale = scale_with m (unit_norm x m) })).scale)
    go true = zero-fits
    go false = div-fits binary64 _ root24

pub first_fits : (x : List Float) → T (fits binary64 (first_scale (choice_of x)))
unfolding choice_of
first_fits x = go (eq a.largest zero64) (is_normal a.scale)
  where
    a : Measured
    a = lower_scale x

    go : (z n : Bool)
        → T (fits binary64
        (first_scale (cond z Zero (cond n (Scale a.scale) (Divide a.largest (lower_scale (quotients_of x a.largest)).scale)))))
    go true n = zero-fits
    go false true = lower-fits x
    go false false = lower-fits (quotients_of x a.largest)

pub second_fits : (s : Float) → T (fits binary64 (second_scale s))
second_fits s = mul-fits binary64 s _

pub quotients_fit : (x : List Float) (m : Float) → AllFit (quotients_of x m)
unfolding quotients_of fits
quotients_fit [] m k = tt
quotients_fit (x ∷ xs) m zero = div-fits binary64 x m
quotients_fit (x ∷ xs) m (suc k) = quotients_fit xs m k
