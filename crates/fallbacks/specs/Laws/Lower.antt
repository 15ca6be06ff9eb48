-- The least number that a point with given offsets and a given class can have, coordinate by coordinate from the last on: of each class of
-- rank one member of o + 4Z is least, so that a coordinate leaves two choices. Assumes nothing.
use Rattle.std.specs.Prelude.{◌≡◌, refl, Bool, true, false, cond, not, ◌&&◌, List, [], ◌∷◌, ℕ, zero, suc, ◌+◌, ◌/◌, ◌%◌, ◌^◌, ◌≤◌, ◌<◌, T, leb, eqb, length, ℤ}
use Rattle.std.proofs.Common.{sym, ap, ◌∙◌, subst, zero-lt-suc, le_refl, arith, leb→le}
use Rattle.std.proofs.Math.Nat.{add-mod}
use Rattle.std.proofs.Math.Dec.{nleb→lt}
use Rattle.laws.specs.Laws.Tests.{upto, below, below2, and_left, and_right, and_in}
use Rattle.rank.specs.Coord.{val_of}
use Rattle.rank.specs.Vector.{ranks_below, k_zero, class}
use Rattle.rank.specs.Laws.Vector.{rank_first, rank_rest}
use Rattle.fallbacks.specs.Laws.Order.{fits, all_fit, part, grade}

-- ---- the point of offsets os and ranks v
unfoldable pub values_of : List ℕ → List ℕ → List ℤ
values_of [] v = []
values_of (o ∷ os) [] = []
values_of (o ∷ os) (r ∷ v) = val_of o r ∷ values_of os v

pub values_length : (os v : List ℕ) → length os ≡ length v → length (values_of os v) ≡ length v
unfolding values_of
values_length [] [] e = refl
values_length [] (r ∷ v) e = absurd (omega arith)
values_length (o ∷ os) [] e = absurd (omega arith)
values_length (o ∷ os) (r ∷ v) e = ap suc (values_length os v (omega arith))

-- ---- one coordinate
-- the rank of the least member of o + 4Z, of those whose k under o = 0 is even, and of those whose k is odd: 4 and -4 have one norm
abbrev least_rank : ℕ → ℕ → ℕ
least_rank o zero = 0
least_rank o (suc e) = cond (eqb o 0) 2 1

-- it is least, whatever the number of coordinates that follow
is_least : ℕ → ℕ → ℕ → Bool
is_least o r n = fits (val_of o r) && leb (part (val_of o (least_rank o ((r + 1) / 2 % 2))) n) (part (val_of o r) n)

all_least : T (upto 4 (λ o. upto 8 (λ r. upto 8 (λ n. is_least o r n))))
unfolding is_least val_of
all_least = tt

least_at : (o r n : ℕ) → o < 4 → r < 8 → n < 8
    → T (fits (val_of o r)) × (part (val_of o (least_rank o ((r + 1) / 2 % 2))) n ≤ part (val_of o r) n)
unfolding is_least
least_at o r n a b c =
    let t = below 8 (λ n. is_least o r n) (below2 4 8 (λ o r. upto 8 (λ n. is_least o r n)) all_least o r a b) n c in
    let x = fits (val_of o r) in
    let y = leb (part (val_of o (least_rank o ((r + 1) / 2 % 2))) n) (part (val_of o r) n) in
    (and_left x y t, leb→le _ _ (and_right x y t))

pub values_fit : (os v : List ℕ) → T (ranks_below 4 os) → T (ranks_below 8 v) → T (all_fit (values_of os v))
unfolding values_of all_fit
values_fit [] v s t = tt
values_fit (o ∷ os) [] s t = tt
values_fit (o ∷ os) (r ∷ v) s t =
    and_in (fits (val_of o r)) (all_fit (values_of os v)) (least_at o r 0 (rank_first 4 o os s) (rank_first 8 r v t) (zero-lt-suc 7)).0
    (values_fit os v (rank_rest 4 o os s) (rank_rest 8 r v t))

-- ---- all of them: the least for class 0 and for class 1
abbrev lesser : ℕ → ℕ → ℕ
lesser a b = cond (leb a b) a b

lesser_left : (a b : ℕ) → lesser a b ≤ a
lesser_left a b = go (leb a b) (nleb→lt a b)
  where
    go : (t : Bool) → (T (not t) → b < a) → cond t a b ≤ a
    go true f = le_refl a
    go false f = omega (arith, f tt)

lesser_right : (a b : ℕ) → lesser a b ≤ b
lesser_right a b = go (leb a b) (leb→le a b)
  where
    go : (t : Bool) → (T t → a ≤ b) → cond t a b ≤ b
    go true f = f tt
    go false f = le_refl b

pub record Two : Type 0 where
  pub even : ℕ
  pub odd : ℕ

abbrev pub of_class : Two → ℕ → ℕ
of_class t zero = t.even
of_class t (suc r) = t.odd

-- a coordinate in front, a its least part with even k and b with odd k
abbrev in_front : ℕ → ℕ → Two → Two
in_front a b t = record { even = lesser (a + t.even) (b + t.odd); odd = lesser (a + t.odd) (b + t.even) }

-- no coordinate has class 0; nothing has class 1, so that any number does there
unfoldable pub lower : List ℕ → Two
lower [] = record { even = 0; odd = 2 ^ 64 }
lower (o ∷ os) = in_front (part (val_of o (least_rank o 0)) (length os)) (part (val_of o (least_rank o 1)) (length os)) (lower os)

front_low : (x : ℕ → ℕ) (t : Two) (e c : ℕ) → e < 2 → c < 2 → of_class (in_front (x 0) (x 1) t) ((e + c) % 2) ≤ x e + of_class t c
front_low x t zero zero h l = lesser_left (x 0 + t.even) (x 1 + t.odd)
front_low x t zero (suc zero) h l = lesser_left (x 0 + t.odd) (x 1 + t.even)
front_low x t (suc zero) zero h l = lesser_right (x 0 + t.odd) (x 1 + t.even)
front_low x t (suc zero) (suc zero) h l = lesser_right (x 0 + t.even) (x 1 + t.odd)
front_low x t zero (suc (suc c)) h l = absurd (omega arith)
front_low x t (suc zero) (suc (suc c)) h l = absurd (omega arith)
front_low x t (suc (suc e)) c h l = absurd (omega arith)

pub lower-bound : (os v : List ℕ) → length os ≡ length v → length os ≤ 8 → T (ranks_below 4 os) → T (ranks_below 8 v)
    → of_class (lower os) (class v) ≤ grade (values_of os v)
unfolding lower values_of grade
lower-bound [] [] e m s t = le_refl 0
lower-bound [] (r ∷ v) e m s t = absurd (omega arith)
lower-bound (o ∷ os) [] e m s t = absurd (omega arith)
lower-bound (o ∷ os) (r ∷ v) e m s t =
    go (lower-bound os v (omega arith) (omega arith) (rank_rest 4 o os s) (rank_rest 8 r v t))
  where
    l : length os ≡ length v
    l = omega arith

    n_is : length os ≡ length (values_of os v)
    n_is = l ∙ sym (values_length os v l)

    x : ℕ → ℕ
    x e = part (val_of o (least_rank o e)) (length os)

    up : (f a b g k : ℕ) → f ≤ a + g → a ≤ b → g ≤ k → f ≤ b + k
    up f a b g k p q h = omega arith

    go : of_class (lower os) (class v) ≤ grade (values_of os v)
        → of_class (in_front (x 0) (x 1) (lower os)) (class (r ∷ v)) ≤ part (val_of o r) (length (values_of os v)) + grade (values_of os v)
    go h =
        up (of_class (in_front (x 0) (x 1) (lower os)) (class (r ∷ v))) (x ((r + 1) / 2 % 2)) (part (val_of o r) (length (values_of os v)))
        (of_class (lower os) (class v)) (grade (values_of os v))
        (subst (λ (c : ℕ). of_class (in_front (x 0) (x 1) (lower os)) c ≤ x ((r + 1) / 2 % 2) + of_class (lower os) (class v))
        (sym (add-mod ((r + 1) / 2) (k_zero v) 2))
        (front_low x (lower os) ((r + 1) / 2 % 2) (class v) (omega arith) (omega arith)))
        (subst (λ (n : ℕ). x ((r + 1) / 2 % 2) ≤ part (val_of o r) n) n_is
        (least_at o r (length os) (rank_first 4 o os s) (rank_first 8 r v t) (omega arith)).1)
        h
