-- What the tests of `abs` and `is_finite` tell. Assumes nothing.
use Rattle.std.proofs.Common.{◌≡◌, true, false, T, sym, refl, ◌∙◌, subst, true≢false}
use lib.Ieee.{Float, nan, inf, fin, binary64, fits, lt, eq, neg}
use lib.Ieee.Scale.{finite}
use Rattle.std.specs.Float.{float_is_finite}
use Rattle.laws.specs.Laws.Tests.{true_is}
use Rattle.float.specs.Value.{zero64}
use Rattle.float.specs.Calls.{abs_of}
use Rattle.float.specs.Laws.Exact.{zero-fits, zero_mag, same_units}
use Rattle.float.specs.Laws.Compare.{lt_zero, eq_zero, zero-eq, from_zero, not-lt_zero}
use Rattle.float.specs.Laws.Near.{abs-exactly}

-- ---- the library's test is the definition
pub finite_is : (x : Float) → float_is_finite x ≡ finite x
unfolding float_is_finite
finite_is nan = refl
finite_is (inf s) = refl
finite_is (fin s m d) = refl

-- ---- x < 0, then x = 0
pub abs_negative : (x : Float) → T (fits binary64 x) → lt x zero64 ≡ true → neg x ≡ abs_of x
unfolding neg abs_of lt
abs_negative nan f e = refl
abs_negative (inf true) f e = refl
abs_negative (inf false) f e = absurd (true≢false (sym e))
abs_negative (fin true m d) f e = refl
abs_negative (fin false m d) f e = absurd (true≢false (sym (lt_zero (fin false m d) f tt (true_is (lt (fin false m d) zero64) e)).0))

pub abs_zero : (x : Float) → T (fits binary64 x) → eq x zero64 ≡ true → zero64 ≡ abs_of x
abs_zero x f e =
    let i = zero-finite x e in
    let a = abs-exactly x f i in
    same_units zero64 (abs_of x) zero-fits a.fit tt a.fin (sym a.sign) (zero_mag ∙ sym (a.mag ∙ eq_zero x f i (true_is (eq x zero64) e)))
  where
    zero-finite : (x : Float) → eq x zero64 ≡ true → T (finite x)
    zero-finite nan e = unfold eq in true≢false (sym e)
    zero-finite (inf s) e = unfold eq in true≢false (sym e)
    zero-finite (fin s m d) e = tt

pub abs_positive : (x : Float) → T (fits binary64 x) → lt x zero64 ≡ false → eq x zero64 ≡ false → x ≡ abs_of x
unfolding abs_of lt
abs_positive nan f l e = refl
abs_positive (inf true) f l e = absurd (true≢false l)
abs_positive (inf false) f l e = refl
abs_positive (fin false m d) f l e = refl
abs_positive (fin true m d) f l e =
    let x = fin true m d in
    absurd (subst T e (zero-eq x f tt (from_zero x f tt (not-lt_zero x f tt l))))
