-- Tests: joined tests, what a computed Bool says, a test at every number below n, and a choice by a test. `T b` (of the library) holds exactly
-- where b is true. Assumes nothing.
use Rattle.std.specs.Prelude.{◌≡◌, refl, Bool, true, false, cond, ◌&&◌, ◌||◌, ◌⊎◌, ℕ, zero, suc, ◌<◌, T, eqb}
use Rattle.std.proofs.Common.{sym, subst, inl, inr, not-suc-le-zero, le_of_suc-le-suc}
use Rattle.std.proofs.Math.Dec.{eqb_refl}

-- ---- joined tests
pub and_left : (a b : Bool) → T (a && b) → T a
and_left true b t = tt
and_left false b t = t

pub and_right : (a b : Bool) → T (a && b) → T b
and_right true b t = t
and_right false b t = absurd t

pub and_in : (a b : Bool) → T a → T b → T (a && b)
and_in true b s t = t
and_in false b s t = s

-- three tests joined, taken apart, and four
pub split3 : (a b c : Bool) → T (a && (b && c)) → T a × T b × T c
split3 true true true t = (tt, tt, tt)
split3 true true false t = absurd t
split3 true false c t = absurd t
split3 false b c t = absurd t

pub split4 : (a b c d : Bool) → T (a && (b && (c && d))) → T a × T b × T c × T d
split4 true true true true t = (tt, tt, tt, tt)
split4 true true true false t = absurd t
split4 true true false d t = absurd t
split4 true false c d t = absurd t
split4 false b c d t = absurd t

pub or_else : (a b : Bool) → T (a || b) → (T a → ⊥) → T b
or_else true b t n = absurd (n tt)
or_else false b t n = t

pub or_left : (a b : Bool) → T a → T (a || b)
or_left true b t = tt
or_left false b t = absurd t

pub or_right : (a b : Bool) → T b → T (a || b)
or_right true b t = tt
or_right false b t = t

pub or_cases : (a b : Bool) → T (a || b) → T a ⊎ T b
or_cases true b t = inl tt
or_cases false b t = inr t

-- c, where b holds
abbrev pub implies : Bool → Bool → Bool
implies b c = cond b c true

pub modus : (b c : Bool) → T b → T (implies b c) → T c
modus true c h t = t
modus false c h t = absurd h

-- ---- a test and its truth
pub is_true : (b : Bool) → T b → b ≡ true
is_true true t = refl
is_true false t = absurd t

pub is_false : (b : Bool) → (T b → ⊥) → b ≡ false
is_false true n = absurd (n tt)
is_false false n = refl

pub true_is : (b : Bool) → b ≡ true → T b
true_is b e = subst T (sym e) tt

pub eq→eqb : (a b : ℕ) → a ≡ b → T (eqb a b)
eq→eqb a b e = subst (λ (x : ℕ). T (eqb a x)) e (eqb_refl a)

-- ---- the test passes at 0, 1, .., n - 1
abbrev pub upto : ℕ → (ℕ → Bool) → Bool
upto zero f = true
upto (suc n) f = f 0 && upto n (λ (k : ℕ). f (suc k))

pub below : (n : ℕ) (f : ℕ → Bool) → T (upto n f) → (k : ℕ) → k < n → T (f k)
below zero f t k h = absurd (not-suc-le-zero h)
below (suc n) f t zero h = and_left (f 0) (upto n (λ (k : ℕ). f (suc k))) t
below (suc n) f t (suc k) h =
    below n (λ (m : ℕ). f (suc m)) (and_right (f 0) (upto n (λ (m : ℕ). f (suc m))) t) k (le_of_suc-le-suc h)

-- the same in two numbers
pub below2 : (n m : ℕ) (f : ℕ → ℕ → Bool) → T (upto n (λ (a : ℕ). upto m (f a))) → (a b : ℕ) → a < n → b < m → T (f a b)
below2 n m f t a b ha hb = below m (f a) (below n (λ (x : ℕ). upto m (f x)) t a ha) b hb

-- ---- a choice by a test
pub cond_same : (A : Type 0) (b : Bool) (x : A) → cond b x x ≡ x
cond_same A true x = refl
cond_same A false x = refl

-- a function of the chosen one is the chosen one of its values
pub cond_ap : (A B : Type 0) (f : A → B) (b : Bool) (x y : A) → cond b (f x) (f y) ≡ f (cond b x y)
cond_ap A B f true x y = refl
cond_ap A B f false x y = refl
