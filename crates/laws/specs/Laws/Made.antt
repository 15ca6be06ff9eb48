-- The array that `from_fn` makes, and the one that `map` makes, where the closure leaves what it captures as it is. Assumes nothing.
use Rattle.std.specs.Prelude.{◌≡◌, refl, List, ℕ, zero, suc, ◌+◌, ◌<◌, ◌≤◌, length, get_or}
use Rattle.std.proofs.Common.{◌∙◌, sym, ap, subst, inl, inr, ◌⊎◌, arith}
use Rattle.std.specs.Array.{MapsFrom, IsMapOf, IsFromFnResultFrom, IsFromFnResult}
use denote.Param.Members.{Mut, Called}
use Rattle.laws.specs.Words.{tab}
use Rattle.laws.specs.Laws.Lists.{filled}

-- the place i, or one after it
at_or_after : {C : Type 0} (i k : ℕ) → i ≤ k → (k ≡ i → C) → (i + 1 ≤ k → C) → C
at_or_after {C} i k l here after = go (split i k l)
  where
    split : (i k : ℕ) → i ≤ k → (k ≡ i) ⊎ (i + 1 ≤ k)
    split i k l = grind arith

    go : (k ≡ i) ⊎ (i + 1 ≤ k) → C
    go (inl e) = here e
    go (inr m) = after m

-- ---- a call for each place
module _ {F B : Type 0} (g : Mut F (ℕ × Unit {0}) B) (f : F) (h : ℕ → B) (ys : List B) (N : ℕ)
    (step : (k : ℕ) (y : B) (q : F) → k < N → Called g f (k, tt) y q → (y ≡ h k) × (q ≡ f)) where
  made_from : (n i : ℕ) (p : F) → p ≡ f → i + n ≡ N → IsFromFnResultFrom g p ys i n → (k : ℕ) → i ≤ k → k < N → (d : B) → get_or ys k d ≡ h k
  made_from zero i p e m r k lo hi d = absurd (omega arith)
  made_from (suc n) i p e m (q, y, at, called, rest) k lo hi d =
      let s = step i y q (omega arith) (subst (λ (z : F). Called g z (i, tt) y q) e called) in
      at_or_after i k lo (λ t. rw t (at.1 d ∙ s.0)) (λ l. made_from n (i + 1) q s.1 (omega arith) rest k l hi d)

  pub made : B → IsFromFnResult g f ys N → ys ≡ tab h N
  made d r = filled B d N h ys r.long (λ k l. made_from N 0 f refl (omega arith) r.each k (omega arith) l d)

-- ---- a call for each element
module _ {F A B : Type 0} (g : Mut F (A × Unit {0}) B) (f : F) (h : A → B) (xs : List A) (ys : List B)
    (step : (x : A) (y : B) (q : F) → Called g f (x, tt) y q → (y ≡ h x) × (q ≡ f)) where
  mapped_from : (n i : ℕ) (p : F) → p ≡ f → MapsFrom g p xs ys i n → (k : ℕ) → i ≤ k → k < i + n → (d : A) (e : B)
      → get_or ys k e ≡ h (get_or xs k d)
  mapped_from zero i p s r k lo hi d e = absurd (omega arith)
  mapped_from (suc n) i p s (q, x, y, from, at, called, rest) k lo hi d e =
      let z = step x y q (subst (λ (z : F). Called g z (x, tt) y q) s called) in
      at_or_after i k lo (λ t. rw t (at.1 e ∙ z.0 ∙ ap h (sym (from.1 d)))) (λ l. mapped_from n (i + 1) q z.1 rest k l (omega arith) d e)

  -- place by place
  pub mapped_at : (n : ℕ) → IsMapOf g f xs ys n → (k : ℕ) → k < n → (d : A) (e : B) → get_or ys k e ≡ h (get_or xs k d)
  mapped_at n r k l d e = mapped_from n 0 f refl r.each k (omega arith) (omega arith) d e
