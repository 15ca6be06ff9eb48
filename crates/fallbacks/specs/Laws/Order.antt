-- The order of points as one number, the norm and then the coordinates as digits, and that no two points are each not after the other.
-- Assumes nothing.
use Rattle.std.specs.Prelude.{◌≡◌, refl, ◌⊎◌, Bool, true, ◌&&◌, List, [], ◌∷◌, ℕ, suc, ◌+◌, ◌*◌, ◌-◌, ◌^◌, ◌≤◌, ◌<◌, T, ltb, length, ℤ, pos, negsuc, ◌<ℤ◌}
use Rattle.std.proofs.Common.{sym, ap, ap₂, ◌∙◌, subst, inl, inr, arith, ltb→lt, lt→ltb, pow-add}
use Rattle.std.proofs.Math.Arith.{digits_lt}
use Rattle.std.specs.Int.Signed.{lt_z, lt_z_yes}
use Rattle.laws.specs.Words.{square, norm}
use Rattle.laws.specs.Laws.Tests.{and_left, and_right}
use Rattle.laws.specs.Laws.Order.{Compared, less, same, more, trichotomy}
use Rattle.fallbacks.specs.Region.{NotGreater, NotAfter}

-- ---- a coordinate as a digit below 64: -16 is 0
abbrev pub digit : ℤ → ℕ
digit (pos n) = 16 + n
digit (negsuc n) = 15 - n

abbrev pub fits : ℤ → Bool
fits (pos n) = ltb n 48
fits (negsuc n) = ltb n 16

digit_lt : (v : ℤ) → T (fits v) → digit v < 64
digit_lt (pos n) f = omega (arith, ltb→lt n 48 f)
digit_lt (negsuc n) f = omega arith

digit_less : (v w : ℤ) → T (fits v) → T (fits w) → digit v < digit w → v <ℤ w
digit_less (pos a) (pos b) f g h = lt_z_yes (lt→ltb a b (omega arith))
digit_less (pos a) (negsuc b) f g h = absurd (omega arith)
digit_less (negsuc a) (pos b) f g h = lt_z_yes tt
digit_less (negsuc a) (negsuc b) f g h = lt_z_yes (lt→ltb b a (omega (arith, ltb→lt a 16 f, ltb→lt b 16 g)))

digit_same : (v w : ℤ) → T (fits v) → T (fits w) → digit v ≡ digit w → v ≡ w
digit_same (pos a) (pos b) f g e = ap pos (omega arith)
digit_same (pos a) (negsuc b) f g e = absurd (omega arith)
digit_same (negsuc a) (pos b) f g e = absurd (omega arith)
digit_same (negsuc a) (negsuc b) f g e = ap negsuc (omega (arith, ltb→lt a 16 f, ltb→lt b 16 g))

-- ---- points whose coordinates are digits
unfoldable pub all_fit : List ℤ → Bool
all_fit [] = true
all_fit (v ∷ y) = fits v && all_fit y

first_fits : (v : ℤ) (y : List ℤ) → T (all_fit (v ∷ y)) → T (fits v)
unfolding all_fit
first_fits v y t = and_left (fits v) (all_fit y) t

rest-fits : (v : ℤ) (y : List ℤ) → T (all_fit (v ∷ y)) → T (all_fit y)
unfolding all_fit
rest-fits v y t = and_right (fits v) (all_fit y) t

pub digits : List ℤ → ℕ
digits [] = 0
digits (v ∷ y) = digit v * 64 ^ length y + digits y

next_power : (n : ℕ) → 64 ^ suc n ≡ 64 * 64 ^ n
next_power n = let e : suc n ≡ 1 + n = omega arith in ap (λ (m : ℕ). 64 ^ m) e ∙ pow-add 64 1 n

pub digits-below : (y : List ℤ) → T (all_fit y) → digits y < 64 ^ length y
unfolding digits
digits-below [] t = omega arith
digits-below (v ∷ y) t =
    subst (λ (n : ℕ). digit v * 64 ^ length y + digits y < n) (sym (next_power (length y)))
    (digits_lt (digit_lt v (first_fits v y t)) (digits-below y (rest-fits v y t)))

pub digits-first : (y z : List ℤ) → length y ≡ length z → T (all_fit y) → T (all_fit z) → digits y ≤ digits z → NotGreater y z
unfolding NotGreater digits
digits-first [] z e s t h = tt
digits-first (v ∷ y) [] e s t h = absurd (omega arith)
digits-first (v ∷ y) (w ∷ z) e s t h =
    go (trichotomy (digit v) (digit w)) (digits-first y z (omega arith) (rest-fits v y s) (rest-fits w z t))
  where
    l : length y ≡ length z
    l = omega arith

    h' : digit v * 64 ^ length z + digits y ≤ digit w * 64 ^ length z + digits z
    h' = subst (λ (n : ℕ). digit v * 64 ^ n + digits y ≤ digit w * 64 ^ length z + digits z) l h

    go : Compared (digit v) (digit w) → (digits y ≤ digits z → NotGreater y z) → (v <ℤ w) ⊎ ((v ≡ w) × NotGreater y z)
    go (less a) next = inl (digit_less v w (first_fits v y s) (first_fits w z t) a)
    go (same a) next =
        inr (
          digit_same v w (first_fits v y s) (first_fits w z t) a,
          next
              (cut (digit v * 64 ^ length z) (digit w * 64 ^ length z) (digits y) (digits z) (ap (λ (n : ℕ). n * 64 ^ length z) a) h'),
        )
      where
        cut : (a b d e : ℕ) → a ≡ b → a + d ≤ b + e → d ≤ e
        cut a b d e q h = omega arith
    go (more a) next =
        absurd
        (clash (digit v * 64 ^ length z) (digit w * 64 ^ length z) (digits y) (digits z) h'
        (digits_lt a (digits-below z (rest-fits w z t))))
      where
        clash : (a b d e : ℕ) → a + d ≤ b + e → b + e < a → ⊥
        clash a b d e h l = omega arith

-- ---- the norm and the eight digits as one number; each coordinate adds its own part, n coordinates following it
abbrev pub part : ℤ → ℕ → ℕ
part v n = square v * 64 ^ 8 + digit v * 64 ^ n

unfoldable pub grade : List ℤ → ℕ
grade [] = 0
grade (v ∷ y) = part v (length y) + grade y

pub grade_is : (y : List ℤ) → grade y ≡ norm y * 64 ^ 8 + digits y
unfolding grade norm digits
grade_is [] = refl
grade_is (v ∷ y) = go (square v) (norm y) (digit v * 64 ^ length y) (digits y) (grade y) (grade_is y)
  where
    go : (s n a d g : ℕ) → g ≡ n * 64 ^ 8 + d → s * 64 ^ 8 + a + g ≡ (s + n) * 64 ^ 8 + (a + d)
    go s n a d g e = omega arith

-- ---- no two points are each not after the other
not_both : (v w : ℤ) → T (lt_z v w) → T (lt_z w v) → ⊥
not_both (pos a) (pos b) s t = omega (arith, ltb→lt a b s, ltb→lt b a t)
not_both (pos a) (negsuc b) s t = s
not_both (negsuc a) (pos b) s t = t
not_both (negsuc a) (negsuc b) s t = omega (arith, ltb→lt b a s, ltb→lt a b t)

not_self : (v : ℤ) → T (lt_z v v) → ⊥
not_self v t = not_both v v t t

pub not_greater_both : (y z : List ℤ) → length y ≡ length z → NotGreater y z → NotGreater z y → y ≡ z
unfolding NotGreater
not_greater_both [] [] e s t = refl
not_greater_both [] (w ∷ z) e s t = absurd (omega arith)
not_greater_both (v ∷ y) [] e s t = absurd s
not_greater_both (v ∷ y) (w ∷ z) e s t = go s t (not_greater_both y z (omega arith))
  where
    go : (v <ℤ w) ⊎ ((v ≡ w) × NotGreater y z) → (w <ℤ v) ⊎ ((w ≡ v) × NotGreater z y) → (NotGreater y z → NotGreater z y → y ≡ z)
        → ◌≡◌ {A = List ℤ} (v ∷ y) (w ∷ z)
    go (inl a) (inl b) next = absurd (not_both v w a.lt b.lt)
    go (inl a) (inr b) next = absurd (not_self v (subst (λ (x : ℤ). T (lt_z v x)) b.0 a.lt))
    go (inr a) (inl b) next = absurd (not_self w (subst (λ (x : ℤ). T (lt_z w x)) a.0 b.lt))
    go (inr a) (inr b) next = ap₂ {C = List ℤ} (λ x l. x ∷ l) a.0 (next a.1 b.1)
