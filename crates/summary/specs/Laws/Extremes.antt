-- The largest and the smallest of a list: that they are, and of one list after another. Both choose between two numbers by a test, `lt_z` or
-- the same turned round, so that each law stands once, over the test. Assumes nothing.
use Rattle.std.specs.Prelude.{◌≡◌, ◌⊎◌, Bool, T, ℤ, pos, negsuc, length, get_or}
use Rattle.std.proofs.Math.Path.{refl, ap, sym}
use Rattle.std.proofs.Common.{subst, ◌∙◌, arith, le_of_suc-le-suc, not-suc-le-zero, ltb→lt, le→leb}
use Rattle.std.proofs.Math.Logic.{inl, inr}
use Rattle.std.proofs.Math.Bool.{true, false, cond}
use mathlib.Core.List.{List, [], ◌∷◌, ◌++◌}
use Prim.Native.Nat.{ℕ, zero, suc, ◌<◌, suc-le-suc}
use Rattle.std.proofs.Math.Nat.{zero-lt-suc}
use Rattle.std.proofs.Math.Dec.{not_T}
use Rattle.std.specs.Int.Signed.{lt_z, le_z, le_z_yes, lt_z_yes, lt_z_no, <ℤ_irrefl, <ℤ-≤ℤ_trans}
use Rattle.laws.specs.Laws.Tests.{is_true, is_false, true_is}
use Rattle.summary.specs.Summary.{taken, extreme}

-- ---- the tests
pub record Order (lt : ℤ → ℤ → Bool) : Type 0 where
  pub self : (a : ℤ) → lt a a ≡ false
  pub less : (a b c : ℤ) → lt a b ≡ true → lt b c ≡ true → lt a c ≡ true
  pub not_less : (a b c : ℤ) → lt a b ≡ false → lt b c ≡ false → lt a c ≡ false

lt-le : (a b : ℤ) → T (lt_z a b) → T (le_z a b)
lt-le (pos a) (pos b) t = le→leb a b (omega (arith, ltb→lt a b t))
lt-le (pos a) (negsuc b) t = t
lt-le (negsuc a) (pos b) t = t
lt-le (negsuc a) (negsuc b) t = le→leb b a (omega (arith, ltb→lt b a t))

false_is : (b : Bool) → b ≡ false → T b → ⊥
false_is b e t = subst T e t

pub ascending : Order lt_z
ascending = record { self = self; less = less; not_less = not_less }
  where
    self : (a : ℤ) → lt_z a a ≡ false
    self a = is_false (lt_z a a) (λ t. <ℤ_irrefl {a = a} (lt_z_yes {a = a} {b = a} t))

    less : (a b c : ℤ) → lt_z a b ≡ true → lt_z b c ≡ true → lt_z a c ≡ true
    less a b c e f =
        let k = le_z_yes {a = b} {b = c} (lt-le b c (true_is (lt_z b c) f)) in
        is_true (lt_z a c) (<ℤ-≤ℤ_trans {a = a} {b = b} {c = c} (lt_z_yes {a = a} {b = b} (true_is (lt_z a b) e)) k).lt

    not_less : (a b c : ℤ) → lt_z a b ≡ false → lt_z b c ≡ false → lt_z a c ≡ false
    not_less a b c e f =
        is_false (lt_z a c) (λ t.
        false_is (lt_z a b) e
        (<ℤ-≤ℤ_trans {a = a} {b = c} {c = b} (lt_z_yes {a = a} {b = c} t) (lt_z_no {a = b} {b = c} (not_T (lt_z b c) (false_is (lt_z b c) f)))).lt)

pub descending : Order (λ a b. lt_z b a)
descending =
    record {
      self = ascending.self;
      less = λ a b c e f. ascending.less c b a f e;
      not_less = λ a b c e f. ascending.not_less c b a f e;
    }

module _ (lt : ℤ → ℤ → Bool) (o : Order lt) where
  -- the one of two that the other is not beyond
  abbrev chosen : ℤ → ℤ → ℤ
  chosen a b = cond (lt a b) b a

  same : (a : ℤ) → chosen a a ≡ a
  same a = rw (o.self a)

  assoc : (a b c : ℤ) → chosen (chosen a b) c ≡ chosen a (chosen b c)
  assoc a b c = go (lt a b) (lt b c) refl refl
    where
      go : (s t : Bool) → lt a b ≡ s → lt b c ≡ t → chosen (cond s b a) c ≡ chosen a (cond t c b)
      go true true e f = rw (f, o.less a b c e f)
      go true false e f = rw (e, f)
      go false true e f = refl
      go false false e f = rw (e, o.not_less a b c e f)

  -- ---- one list after another
  taken-append : (m : ℤ) (xs ys : List ℤ) → taken chosen m (xs ++ ys) ≡ taken chosen (taken chosen m xs) ys
  unfolding taken
  taken-append m [] ys = refl
  taken-append m (x ∷ xs) ys = taken-append (chosen m x) xs ys

  taken_from : (a b : ℤ) (ys : List ℤ) → taken chosen (chosen a b) ys ≡ chosen a (taken chosen b ys)
  unfolding taken
  taken_from a b [] = refl
  taken_from a b (y ∷ ys) = ap (λ (m : ℤ). taken chosen m ys) (assoc a b y) ∙ taken_from a (chosen b y) ys

  pub extreme-append : (xs ys : List ℤ) → 0 < length xs → 0 < length ys
      → extreme chosen (xs ++ ys) ≡ chosen (extreme chosen xs) (extreme chosen ys)
  unfolding taken
  extreme-append [] ys h k = absurd (not-suc-le-zero h)
  extreme-append (x ∷ xs) [] h k = absurd (not-suc-le-zero k)
  extreme-append (x ∷ xs) (y ∷ ys) h k =
      taken-append x (x ∷ xs) (y ∷ ys) ∙ taken_from (extreme chosen (x ∷ xs)) y ys
      ∙ ap (λ (m : ℤ). chosen (extreme chosen (x ∷ xs)) (taken chosen m ys)) (sym (same y))

  -- ---- nothing in the list is beyond it
  back : (a b : ℤ) → lt a b ≡ true → lt b a ≡ false
  back a b e = is_false (lt b a) (λ t. false_is (lt a a) (o.self a) (true_is (lt a a) (o.less a b a e (is_true (lt b a) t))))

  beyond_first : (a b : ℤ) → lt (chosen a b) a ≡ false
  beyond_first a b = go (lt a b) refl
    where
      go : (t : Bool) → lt a b ≡ t → lt (cond t b a) a ≡ false
      go true e = back a b e
      go false e = o.self a

  beyond_second : (a b : ℤ) → lt (chosen a b) b ≡ false
  beyond_second a b = go (lt a b) refl
    where
      go : (t : Bool) → lt a b ≡ t → lt (cond t b a) b ≡ false
      go true e = o.self b
      go false e = e

  beyond_start : (m : ℤ) (ys : List ℤ) → lt (taken chosen m ys) m ≡ false
  unfolding taken
  beyond_start m [] = o.self m
  beyond_start m (y ∷ ys) = o.not_less _ (chosen m y) m (beyond_start (chosen m y) ys) (beyond_first m y)

  beyond : (m : ℤ) (ys : List ℤ) (i : ℕ) → i < length ys → lt (taken chosen m ys) (get_or ys i (pos 0)) ≡ false
  unfolding taken
  beyond m [] i h = absurd (not-suc-le-zero h)
  beyond m (y ∷ ys) zero h = o.not_less _ (chosen m y) y (beyond_start (chosen m y) ys) (beyond_second m y)
  beyond m (y ∷ ys) (suc i) h = beyond (chosen m y) ys i (le_of_suc-le-suc h)

  pub none_beyond : (ys : List ℤ) (i : ℕ) → i < length ys → lt (extreme chosen ys) (get_or ys i (pos 0)) ≡ false
  none_beyond ys i h = beyond (get_or ys 0 (pos 0)) ys i h

  -- ---- and it is one of the list
  abbrev At : List ℤ → ℤ → Type 0
  At ys z = (j : ℕ) × (j < length ys) × (get_or ys j (pos 0) ≡ z)

  one_of : (m : ℤ) (ys : List ℤ) → (taken chosen m ys ≡ m) ⊎ At ys (taken chosen m ys)
  unfolding taken
  one_of m [] = inl refl
  one_of m (y ∷ ys) = go (lt m y) (one_of (chosen m y) ys)
    where
      go : (t : Bool) → (taken chosen (cond t y m) ys ≡ cond t y m) ⊎ At ys (taken chosen (cond t y m) ys)
          → (taken chosen (cond t y m) ys ≡ m) ⊎ At (y ∷ ys) (taken chosen (cond t y m) ys)
      go true (inl e) = inr (0, zero-lt-suc (length ys), sym e)
      go false (inl e) = inl e
      go t (inr p) = inr (suc p.0, suc-le-suc p.1, p.2)

  pub found : (ys : List ℤ) → 0 < length ys → At ys (extreme chosen ys)
  found ys h = go (one_of (get_or ys 0 (pos 0)) ys)
    where
      go : (extreme chosen ys ≡ get_or ys 0 (pos 0)) ⊎ At ys (extreme chosen ys) → At ys (extreme chosen ys)
      go (inl e) = (0, h, sym e)
      go (inr p) = p
