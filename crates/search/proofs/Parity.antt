-- The parities searched: a winner that was found is of one of them, and where that over both is even, it is the one over parity 0 alone.
-- Assumes nothing.
use Rattle.std.specs.Prelude.{◌≡◌, ◌⊎◌, Bool, true, false, cond, not, ◌&&◌, ◌||◌, ℕ}
use Rattle.std.proofs.Math.Path.{refl, ap}
use Rattle.std.proofs.Common.{sym, ◌∙◌, subst, inr, arith}
use Rattle.std.proofs.Math.Logic.{inl}
use mathlib.Core.List.{List, [], ◌∷◌, Memᴰ}
use Rattle.std.proofs.Math.Dec.{T}
use Rattle.std.specs.Float.Ieee.{lt}
use Rattle.search.specs.Tables.{Tables}
use Rattle.search.specs.Entries.{Rule}
use Rattle.search.specs.declared.Targets.{Targets}
use Rattle.search.specs.Parity.{Winner, parity, nobody, cost_of, choose, search_over, both_parities, even_parities, search}

module _ (g : Tables) (u : Rule) (t : Targets) where
  parity_is : (p : ℕ) (w : Winner) → (parity g u t p (cost_of w)).p ≡ p
  unfolding parity
  parity_is p w = refl

  -- what stands at the end stood at the start, or is of a parity searched
  abbrev Among : Winner → Winner → List ℕ → Type 0
  Among best w ps = (w ≡ best) ⊎ Memᴰ w.p ps

  among : (best : Winner) (ps : List ℕ) → Among best (search_over g u t best ps) ps
  unfolding search_over
  among best [] = inl refl
  among best (p ∷ ps) = go (new.found && (not best.found || lt new.cost best.cost)) (among new ps) (among best ps)
    where
      new : Winner
      new = parity g u t p (cost_of best)

      go : (b : Bool) → Among new (search_over g u t new ps) ps → Among best (search_over g u t best ps) ps
          → Among best (search_over g u t (cond b new best) ps) (p ∷ ps)
      go true (inl e) n = inr (Memᴰ.head (ap (λ (w : Winner). w.p) e ∙ parity_is p best))
      go true (inr m) n = inr (Memᴰ.tail m)
      go false m (inl e) = inl e
      go false m (inr n) = inr (Memᴰ.tail n)

  pub found_among : (ps : List ℕ) → (search g u t ps).found ≡ true → Memᴰ (search g u t ps).p ps
  unfolding search
  found_among ps f = go (among nobody ps)
    where
      go : (search_over g u t nobody ps ≡ nobody) ⊎ Memᴰ (search_over g u t nobody ps).p ps → Memᴰ (search_over g u t nobody ps).p ps
      go (inl e) = absurd (subst T (sym f ∙ ap (λ (w : Winner). w.found) e) tt)
      go (inr m) = m

  -- a winner over both parities that is of parity 0 was not beaten by parity 1
  pub even_stays : (search g u t both_parities).p ≡ 0 → search g u t both_parities ≡ search g u t even_parities
  unfolding search search_over
  even_stays = go (new.found && (not even.found || lt new.cost even.cost))
    where
      even : Winner
      even = choose nobody (parity g u t 0 (cost_of nobody))

      new : Winner
      new = parity g u t 1 (cost_of even)

      go : (b : Bool) → (cond b new even).p ≡ 0 → cond b new even ≡ even
      go true e = absurd (omega (arith, e, parity_is 1 even))
      go false e = refl
