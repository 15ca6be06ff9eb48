-- THE ROOT: the computed double is the nearest to the exact root, and no other double is. The steps are in Laws.antt. Assumes nothing.
use Rattle.std.specs.Prelude.{◌≡◌, true, false, ℕ, zero, suc, ◌≤◌, ◌<◌, T, Float, Result, Ok, Err, refl, ◌⊎◌}
use Rattle.std.specs.Result.{result_unwrap_or}
use Rattle.std.proofs.Common.{ap, inl, inr, arith, sym, ◌∙◌, subst, true≢false, le_antisymm, lt_of_not-le, le_of_suc-le-suc, lt_irrefl}
use Rattle.std.specs.Float.{nan, inf, fin, binary64}
use Rattle.std.specs.Float.Ieee.{fits}
use Rattle.std.specs.Float.Ieee.Scale.{finite}
use Rattle.refusal.specs.declared.Refusal.{Refusal}
use Rattle.refusal.specs.Refusal.{number_of}
use Rattle.refusal.proofs.Apart.{told_by_number, told_at_all}
use Rattle.float.specs.Value.{mag_units, is_minus, zero64}
use Rattle.float.specs.Laws.Exact.{same_units, zero-fits, no_digits, some-digits}
use Rattle.root.specs.Root.{NearestRoot, whole_root, root_of, Rooted, rooted_by, rooted}
use Rattle.root.specs.Laws.{leading, dropped, cut, floor_is, low_digits, high_digits, held-root, nearest_of, not_less}

-- ---- of a finite double above zero, the computed root is the nearest
pub root-nearest : (x : Float) → T (fits binary64 x) → T (finite x) → 0 < mag_units x → NearestRoot x (root_of x)
root-nearest x f i p =
    let n = leading x f i p in
    nearest_of x n (whole_root 53 n) (dropped x f i p) (sym (cut x f i p)) (floor_is x f i p) (low_digits x f i p) (high_digits x f i p) (root_of x)
    (held-root x f i p)

-- ---- no second double is
pub nearest_unique : (x r q : Float) → NearestRoot x r → NearestRoot x q → r ≡ q
nearest_unique x r q a b =
    same_units r q a.fit b.fit a.fin b.fin (a.sign ∙ sym b.sign)
    (le_antisymm (le_of_suc-le-suc (lt_of_not-le (λ (l : suc (mag_units q) ≤ mag_units r). not_less x q r b a l)))
    (le_of_suc-le-suc (lt_of_not-le (λ (l : suc (mag_units r) ≤ mag_units q). not_less x r q a b l))))

-- ---- so it is the answer of `root`
pub rooted-nearest : (x : Float) → T (fits binary64 x) → T (finite x) → is_minus x ≡ false → 0 < mag_units x → NearestRoot x (rooted x).root
unfolding rooted
rooted-nearest nan f i s p = absurd i
rooted-nearest (inf s) f i t p = absurd i
rooted-nearest (fin s zero e) f i t p = absurd (lt_irrefl 0 (subst (λ (z : ℕ). 0 < z) (no_digits s e) p))
rooted-nearest (fin true (suc m) e) f i t p = absurd (true≢false t)
rooted-nearest (fin false (suc m) e) f i t p = root-nearest (fin false (suc m) e) f tt p

-- which is always a finite double
pub rooted-finite : (x : Float) → T (fits binary64 x) → T (fits binary64 (rooted x).root) × T (finite (rooted x).root)
unfolding rooted
rooted-finite nan f = (zero-fits, tt)
rooted-finite (inf s) f = (zero-fits, tt)
rooted-finite (fin s zero e) f = (f, tt)
rooted-finite (fin true (suc m) e) f = (zero-fits, tt)
rooted-finite (fin false (suc m) e) f =
    let r = root-nearest (fin false (suc m) e) f tt (some-digits false m e) in
    (r.fit, r.fin)

-- the root of an answer, +0.0 where there is none
pub root_or_zero : (r : Result Float Refusal) → result_unwrap_or r zero64 ≡ (rooted_by r).root
root_or_zero (Ok x) = refl
root_or_zero (Err e) = refl

-- the number of an answer is 0 or 7, so that no second one fits
number_is : (x : Float) → ((rooted x).number ≡ 0) ⊎ ((rooted x).number ≡ 7)
unfolding rooted
number_is nan = inr refl
number_is (inf s) = inr refl
number_is (fin s zero e) = inl refl
number_is (fin true (suc m) e) = inr refl
number_is (fin false (suc m) e) = inl refl

pub one_answer : (x : Float) (a b : Result Float Refusal) → rooted_by a ≡ rooted x → rooted_by b ≡ rooted x → a ≡ b
one_answer x (Ok a) (Ok b) p q = let ok : Float → Result Float Refusal = λ r. Ok r in ap (λ (r : Rooted). ok r.root) (p ∙ sym q)
one_answer x (Ok a) (Err s) p q = absurd (told_at_all s (sym (ap (λ (r : Rooted). r.number) (p ∙ sym q))))
one_answer x (Err r) (Ok b) p q = absurd (told_at_all r (ap (λ (z : Rooted). z.number) (p ∙ sym q)))
one_answer x (Err r) (Err s) p q =
    let err : Refusal → Result Float Refusal = λ z. Err z in
    ap err (told_by_number r s (ap (λ (z : Rooted). z.number) (p ∙ sym q)) (not_eleven (number_is x)))
  where
    told : number_of s ≡ (rooted x).number
    told = ap (λ (z : Rooted). z.number) q

    not_eleven : ((rooted x).number ≡ 0) ⊎ ((rooted x).number ≡ 7) → number_of s ≡ 11 → ⊥
    not_eleven (inl h) e = omega (arith, told, h, e)
    not_eleven (inr h) e = omega (arith, told, h, e)
