-- A quotient that does not exceed a million in magnitude is finite: it is no NaN, and an infinity exceeds. Assumes nothing.
use Rattle.std.specs.Prelude.{◌≡◌, Bool, true, false, cond, not, ℕ, zero, suc, ◌+◌, ◌*◌, ◌^◌, T, ltb, Float}
use Rattle.std.proofs.Common.{sym, subst}
use Rattle.std.specs.Float.{nan, inf, fin, binary64}
use Rattle.std.specs.Float.Ieee.{fits, div, lt, is_nan, round, odd, units, low, emax, prec}
use Rattle.std.specs.Float.Ieee.Fits.{round_is}
use Rattle.std.specs.Float.Ieee.Scale.{finite}
use Rattle.float.specs.Value.{zero64}
use Rattle.float.specs.Calls.{abs_of, million64}
use Rattle.float.specs.Laws.Compare.{zero-lt}
use Rattle.float.specs.Laws.Arithmetic.{div-fraction}

-- ---- a rounded fraction is a number or an infinity
odd_number : (d : ℕ) (s : Bool) (q k l : ℕ) → T (not (is_nan (odd d s q k l)))
unfolding odd is_nan
odd_number d s zero k l = tt
odd_number d s (suc q) k l = tt

units_number : (s : Bool) (q k : ℕ) → T (not (is_nan (units binary64 s q k)))
unfolding units is_nan
units_number s q k = go (ltb (q * 2 ^ k) (2 ^ (low binary64 + suc (emax binary64))))
  where
    go : (b : Bool) → T (not (is_nan (cond b (odd (suc (prec binary64)) s q k (low binary64)) (inf s))))
    go true = odd_number (suc (prec binary64)) s q k (low binary64)
    go false = tt

round_number : (s : Bool) (a c : ℕ) → T (not (is_nan (round binary64 s a c)))
round_number s a c = subst (λ (q : Float). T (not (is_nan q))) (sym (round_is binary64 s a c)) (units_number s _ _)

-- one that is not above a million in magnitude is finite
not_above : (q : Float) → T (not (is_nan q)) → lt million64 (abs_of q) ≡ false → T (finite q)
unfolding is_nan lt abs_of
not_above nan n e = absurd n
not_above (inf s) n e = subst T e tt
not_above (fin s m k) n e = tt

-- ---- a quotient by a number above 0
module _ (x s : Float) (fx : T (fits binary64 x)) (fs : T (fits binary64 s)) (ix : T (finite x)) (is : T (finite s)) (p : T (lt zero64 s)) where
  quotient_number_lem : T (not (is_nan (div binary64 x s)))
  quotient_number_lem =
      let f = div-fraction x s fx fs ix is (zero-lt s fs is p).1 in
      subst (λ (q : Float). T (not (is_nan q))) (sym f.is) (round_number _ f.num f.den)

  pub quotient-finite : lt million64 (abs_of (div binary64 x s)) ≡ false → T (finite (div binary64 x s))
  quotient-finite e = not_above (div binary64 x s) quotient_number_lem e

-- an infinity over such a number is one, and so it exceeds
over-finite : (z s : Float) → T (not (is_nan z)) → T (finite s) → lt million64 (abs_of (div binary64 z s)) ≡ false → T (finite z)
unfolding is_nan div lt abs_of
over-finite nan s n i e = absurd n
over-finite (inf t) nan n i e = absurd i
over-finite (inf t) (inf u) n i e = absurd i
over-finite (inf t) (fin u m k) n i e = subst T e tt
over-finite (fin t m k) s n i e = tt

-- so a quotient that is divided once more is finite where the second quotient does not exceed
pub divided-finite : (x m s : Float) → T (fits binary64 x) → T (fits binary64 m) → T (finite x) → T (finite m) → T (lt zero64 m) → T (finite s)
    → lt million64 (abs_of (div binary64 (div binary64 x m) s)) ≡ false → T (finite (div binary64 x m))
divided-finite x m s fx fm ix im p i e = over-finite (div binary64 x m) s (quotient_number_lem x m fx fm ix im p) i e
