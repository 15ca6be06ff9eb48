-- A bound: what the test of any cost and cut says. Assumes nothing.
use Rattle.std.specs.Prelude.{◌≡◌, ◌⊎◌, Bool, true, false, List, [], ◌∷◌}
use Rattle.std.proofs.Common.{inl, inr, ⊎_elim, arith}
use Prim.Native.Nat.{ℕ, ◌<◌, compare, Ordering}
use Rattle.laws.specs.Words.{pick3, lex_le}
use Rattle.laws.specs.Laws.Order.{Ordered, compared}
use Rattle.rank.specs.Vector.{cost, within}

-- a Bool that says whether P holds
unfoldable pub Says : Bool → Type 0 → Type 0
Says true P = P
Says false P = P → ⊥

-- at most the cut: the first place at which the two differ decides
unfoldable pub LexLe : List ℕ → List ℕ → Type 0
LexLe [] w = Unit
LexLe (x ∷ v) [] = ⊥
LexLe (x ∷ v) (y ∷ w) = (x < y) ⊎ ((x ≡ y) × LexLe v w)

pick3-says : (a b : ℕ) (p : Bool) (P : Type 0) → Says p P → Says (pick3 (compare a b) p) ((a < b) ⊎ ((a ≡ b) × P))
unfolding Says
pick3-says a b p P s = go (compare a b) (compared a b)
  where
    equal : (p : Bool) → a ≡ b → Says p P → Says p ((a < b) ⊎ ((a ≡ b) × P))
    equal true e s = inr (e, s)
    equal false e s = ⊎_elim (λ h. omega arith) (λ h. s h.1)

    go : (o : Ordering) → Ordered o a b → Says (pick3 o p) ((a < b) ⊎ ((a ≡ b) × P))
    go Ordering.lt c = inl c
    go Ordering.eq c = equal p c s
    go Ordering.gt c = ⊎_elim (λ h. omega arith) (λ h. omega (arith, h.0))

lex_le-says : (v w : List ℕ) → Says (lex_le v w) (LexLe v w)
unfolding Says LexLe
lex_le-says [] w = tt
lex_le-says (x ∷ v) [] = λ z. z
lex_le-says (x ∷ v) (y ∷ w) = pick3-says x y (lex_le v w) (LexLe v w) (lex_le-says v w)

-- cost below C, or cost C and at most the cut, coordinate 0 most significant
pub within-says : (C : ℕ) (cut v : List ℕ) → Says (within C cut v) ((cost v < C) ⊎ ((cost v ≡ C) × LexLe v cut))
within-says C cut v = pick3-says (cost v) C (lex_le v cut) (LexLe v cut) (lex_le-says v cut)
