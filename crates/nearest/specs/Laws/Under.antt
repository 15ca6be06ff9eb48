-- Values that are no NaN and not minus infinity, and the statement that one is at most B units of 2 ^ -2148.
use Rattle.std.specs.Prelude.{◌≡◌, ◌⊎◌, Bool, true, false, ℕ, ◌+◌, ◌*◌, ◌≤◌, T, Float}
use Rattle.std.proofs.Math.Path.{refl}
use Rattle.std.proofs.Common.{sym, ap, ◌∙◌, subst, inl, inr, le_of_lt, mul-le-mul_right, add-mul, arith}
use Rattle.std.specs.Float.{nan, inf, fin, binary64}
use Rattle.std.specs.Float.Ieee.{fits, lt, le, eq, add}
use Rattle.std.specs.Float.Ieee.Scale.{finite}
use Rattle.laws.specs.Laws.Tests.{true_is}
use Rattle.float.specs.Value.{pos_units, neg_units, U}
use Rattle.float.specs.Laws.Near.{Near}
use Rattle.float.specs.Laws.Compare.{lt_is, not-lt_is, le_is, AtMost}
use Rattle.search.specs.Solve.{infinity}

pub record Plain (x : Float) : Type 0 where
  pub fit : T (fits binary64 x)
  pub fin : T (finite x)

abbrev pub Num : Float → Type 0
Num x = (x ≡ infinity) ⊎ Plain x

pub record Under (x : Float) (B : ℕ) : Type 0 where
  pub fit : T (fits binary64 x)
  pub fin : T (finite x)
  pub below : pos_units x * U ≤ B + neg_units x * U

pub near_num : {c : ℕ} {x : Float} {p n e : ℕ} → Near c x p n e → Num x
near_num a = inr (record { fit = a.fit; fin = a.fin })

pub near-under : {x : Float} {s e : ℕ} (B : ℕ) → Near U x s 0 e → s + e ≤ B → Under x B
near-under {x} {s} {e} B a h = record { fit = a.fit; fin = a.fin; below = go (pos_units x * U) (neg_units x * U) s e B a.hi h }
  where
    go : (p m s e B : ℕ) → p + 0 ≤ s + m + e → s + e ≤ B → p ≤ B + m
    go p m s e B h k = omega arith

pub under-near : {x : Float} {s e B : ℕ} → Near U x s 0 e → Under x B → s ≤ B + e
under-near {x} {s} {e} {B} a u = go (pos_units x * U) (neg_units x * U) s e B a.lo u.below
  where
    go : (p m s e B : ℕ) → s + m ≤ p + 0 + e → p ≤ B + m → s ≤ B + e
    go p m s e B h k = omega arith

pub under_more : {x : Float} {B : ℕ} (C : ℕ) → Under x B → B ≤ C → Under x C
under_more {x} {B} C u h = record { fit = u.fit; fin = u.fin; below = go (pos_units x * U) (neg_units x * U) B C u.below h }
  where
    go : (p m B C : ℕ) → p ≤ B + m → B ≤ C → p ≤ C + m
    go p m B C h k = omega arith

-- at most a value that is under B
under_at : (x y : Float) {B : ℕ} → Plain x → AtMost x y → Under y B → Under x B
under_at x y {B} a h u = record { fit = a.fit; fin = a.fin; below = go (pos_units x) (neg_units x) (pos_units y) (neg_units y) U h u.below }
  where
    go : (px mx py my c : ℕ) → px + my ≤ py + mx → py * c ≤ B + my * c → px * c ≤ B + mx * c
    go px mx py my c h k =
        let a : (px + my) * c ≤ (py + mx) * c = mul-le-mul_right c h in
        let b : (px + my) * c ≡ px * c + my * c = add-mul px my c in
        let d : (py + mx) * c ≡ py * c + mx * c = add-mul py mx c in
        omega arith

-- comparisons with infinity
pub lt_inf : (x : Float) → T (finite x) → lt infinity x ≡ false
unfolding lt
lt_inf nan h = refl
lt_inf (inf false) h = refl
lt_inf (inf true) h = refl
lt_inf (fin s m e) h = refl

pub inf-lt : (x : Float) → T (finite x) → lt x infinity ≡ true
unfolding lt
inf-lt nan h = absurd h
inf-lt (inf s) h = absurd h
inf-lt (fin s m e) h = refl

pub le_inf : (x : Float) → T (finite x) → le infinity x ≡ false
unfolding le lt eq
le_inf nan h = absurd h
le_inf (inf s) h = absurd h
le_inf (fin s m e) h = refl

pub clash : {b : Bool} → b ≡ true → b ≡ false → ⊥
clash p q = subst T (sym p ∙ q) tt

-- ---- the three uses
pub under-lt : (x y : Float) {B : ℕ} → Num x → Under y B → lt x y ≡ true → Under x B
under-lt x y (inl e) u h = absurd (clash h (subst (λ (z : Float). lt z y ≡ false) (sym e) (lt_inf y u.fin)))
under-lt x y (inr a) u h = under_at x y a (le_of_lt (lt_is x y a.fit u.fit a.fin u.fin (true_is _ h))) u

pub under_not-lt : (x y : Float) {B : ℕ} → Under x B → Num y → lt x y ≡ false → Under y B
under_not-lt x y u (inl e) h = absurd (clash (subst (λ (z : Float). lt x z ≡ true) (sym e) (inf-lt x u.fin)) h)
under_not-lt x y u (inr a) h = under_at y x a (not-lt_is x y u.fit a.fit u.fin a.fin h) u

pub under-le : (x y : Float) {B : ℕ} → Num x → Under y B → le x y ≡ true → Under x B
under-le x y (inl e) u h = absurd (clash h (subst (λ (z : Float). le z y ≡ false) (sym e) (le_inf y u.fin)))
under-le x y (inr a) u h = under_at x y a (le_is x y a.fit u.fit a.fin u.fin (true_is _ h)) u

-- ---- sums with infinity
pub add_inf_l : (y : Float) → Num y → add binary64 infinity y ≡ infinity
add_inf_l y (inl e) = subst (λ (z : Float). add binary64 infinity z ≡ infinity) (sym e) (unfold add in refl)
add_inf_l y (inr a) = go y a.fin
  where
    go : (y : Float) → T (finite y) → add binary64 infinity y ≡ infinity
    go nan h = absurd h
    go (inf s) h = absurd h
    go (fin s m e) h = unfold add in refl

pub add_inf_r : (x : Float) → Plain x → add binary64 x infinity ≡ infinity
add_inf_r x a = go x a.fin
  where
    go : (x : Float) → T (finite x) → add binary64 x infinity ≡ infinity
    go nan h = absurd h
    go (inf s) h = absurd h
    go (fin s m e) h = unfold add in refl

-- ---- a sum of three values, each infinite or known to be finite: it is infinite, or they are all finite
abbrev pub sum3 : Float → Float → Float → Float
sum3 x y z = add binary64 (add binary64 x y) z

pub either_num : {A : Type 0} {x : Float} → (A → Plain x) → (x ≡ infinity) ⊎ A → Num x
either_num f (inl e) = inl e
either_num f (inr a) = inr (f a)

module _ {A B C : Type 0} (x y z : Float) (f : A → Plain x) (g : B → Plain y) (h : C → Plain z) (fg : A → B → Plain (add binary64 x y)) where
  pub sum3_case : (x ≡ infinity) ⊎ A → (y ≡ infinity) ⊎ B → (z ≡ infinity) ⊎ C → (sum3 x y z ≡ infinity) ⊎ (A × B × C)
  sum3_case (inl e) b c =
      inl (ap (λ (v : Float). sum3 v y z) e ∙ ap (λ (v : Float). add binary64 v z) (add_inf_l y (either_num g b)) ∙ add_inf_l z (either_num h c))
  sum3_case (inr a) (inl e) c =
      inl (ap (λ (v : Float). sum3 x v z) e ∙ ap (λ (v : Float). add binary64 v z) (add_inf_r x (f a)) ∙ add_inf_l z (either_num h c))
  sum3_case (inr a) (inr b) (inl e) = inl (ap (λ (v : Float). sum3 x y v) e ∙ add_inf_r (add binary64 x y) (fg a b))
  sum3_case (inr a) (inr b) (inr c) = inr (a, b, c)
