-- Order: what a comparison of two numbers says, and a comparison that hands on to another where the two are equal, as lists of numbers are
-- compared, first element most significant. Assumes nothing.
use Rattle.std.specs.Prelude.{◌≡◌, refl, ◌⊎◌, ◌≢◌, Bool, true, false, not, T}
use Rattle.std.proofs.Common.{◌∙◌, subst, sym, inl, inr, arith, leb→le, eqb→eq}
use Prim.Native.Nat.{ℕ, suc, ◌+◌, ◌-◌, ◌<◌, ◌≤◌, compare, Ordering}
use Rattle.std.proofs.Math.Dec.{is_le, compare_is_eq, eqb_refl, nleb→lt}
use Rattle.std.proofs.Math.Arith.{lt_of_le-ne}
use Rattle.laws.specs.Words.{pick3}

-- ---- two numbers
abbrev pub Ordered : Ordering → ℕ → ℕ → Type 0
Ordered Ordering.lt a b = a < b
Ordered Ordering.eq a b = a ≡ b
Ordered Ordering.gt a b = b < a

pub compared : (a b : ℕ) → Ordered (compare a b) a b
compared a b = go (compare a b) refl
  where
    go : (o : Ordering) → compare a b ≡ o → Ordered o a b
    go Ordering.lt e = lt_of_le-ne (leb→le a b (subst (λ (o : Ordering). T (is_le o)) (sym e) tt)) differ
      where
        differ : a ≡ b → ⊥
        differ q = subst (λ (o : Ordering). T (compare_is_eq o)) e (subst (λ (m : ℕ). T (compare_is_eq (compare a m))) q (eqb_refl a))
    go Ordering.eq e = eqb→eq a b (subst (λ (o : Ordering). T (compare_is_eq o)) (sym e) tt)
    go Ordering.gt e = nleb→lt a b (subst (λ (o : Ordering). T (not (is_le o))) (sym e) tt)

-- the same where no comparison is at hand: one is below the other, or is it, or is above it
pub data Compared (a b : ℕ) : Type 0 where
  less : a < b → Compared a b
  same : a ≡ b → Compared a b
  more : b < a → Compared a b

pub trichotomy : (a b : ℕ) → Compared a b
trichotomy a b = go (compare a b) (compared a b)
  where
    go : (o : Ordering) → Ordered o a b → Compared a b
    go Ordering.lt c = less c
    go Ordering.eq c = same c
    go Ordering.gt c = more c

pub le-or-lt : (a b : ℕ) → (a ≤ b) ⊎ (b < a)
le-or-lt a b = go (trichotomy a b)
  where
    go : Compared a b → (a ≤ b) ⊎ (b < a)
    go (less c) = inl (omega arith)
    go (same c) = inl (omega arith)
    go (more c) = inr c

-- below n + 1 and other than n
pub lt-other : {n j : ℕ} → n ≢ j → j < suc n → j < n
lt-other d h = omega arith

pub sub-below : (a b c : ℕ) → a ≤ c + b → a - b ≤ c
sub-below a b c h = omega arith

-- ---- smaller: yes; equal: as the rest says; greater: no
pub pick3_less : (a b : ℕ) (p : Bool) → a < b → pick3 (compare a b) p ≡ true
pick3_less a b p h = go (compare a b) (compared a b)
  where
    go : (o : Ordering) → Ordered o a b → pick3 o p ≡ true
    go Ordering.lt c = refl
    go Ordering.eq c = absurd (omega arith)
    go Ordering.gt c = absurd (omega arith)

pub pick3_same : (a b : ℕ) (p : Bool) → a ≡ b → pick3 (compare a b) p ≡ p
pick3_same a b p h = go (compare a b) (compared a b)
  where
    go : (o : Ordering) → Ordered o a b → pick3 o p ≡ p
    go Ordering.lt c = absurd (omega arith)
    go Ordering.eq c = refl
    go Ordering.gt c = absurd (omega arith)

pub pick3-more : (a b : ℕ) (p : Bool) → b < a → pick3 (compare a b) p ≡ false
pick3-more a b p h = go (compare a b) (compared a b)
  where
    go : (o : Ordering) → Ordered o a b → pick3 o p ≡ false
    go Ordering.lt c = absurd (omega arith)
    go Ordering.eq c = absurd (omega arith)
    go Ordering.gt c = refl

-- where it says yes
pub pick3_out : (a b : ℕ) (p : Bool) → T (pick3 (compare a b) p) → (a < b) ⊎ ((a ≡ b) × T p)
pick3_out a b p = go (compare a b) (compared a b)
  where
    go : (o : Ordering) → Ordered o a b → T (pick3 o p) → (a < b) ⊎ ((a ≡ b) × T p)
    go Ordering.lt c t = inl c
    go Ordering.eq c t = inr (c, t)
    go Ordering.gt c t = absurd t

pub pick3-lt : (a b : ℕ) (p : Bool) → a < b → T (pick3 (compare a b) p)
pick3-lt a b p h = subst T (sym (pick3_less a b p h)) tt

pub pick3-eq : (a b : ℕ) (p : Bool) → a ≡ b → T p → T (pick3 (compare a b) p)
pick3-eq a b p q t = subst T (sym (pick3_same a b p q)) t

pub pick3-trans : (a b c : ℕ) (p q r : Bool) → (T p → T q → T r) → T (pick3 (compare a b) p) → T (pick3 (compare b c) q)
    → T (pick3 (compare a c) r)
pick3-trans a b c p q r f s t = go (pick3_out a b p s) (pick3_out b c q t)
  where
    go : (a < b) ⊎ ((a ≡ b) × T p) → (b < c) ⊎ ((b ≡ c) × T q) → T (pick3 (compare a c) r)
    go (inl x) (inl y) = pick3-lt a c r (omega arith)
    go (inl x) (inr y) = pick3-lt a c r (omega (arith, y.0))
    go (inr x) (inl y) = pick3-lt a c r (omega (arith, x.0))
    go (inr x) (inr y) = pick3-eq a c r (x.0 ∙ y.0) (f x.1 y.1)
