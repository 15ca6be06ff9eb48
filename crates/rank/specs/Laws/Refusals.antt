-- The refusals of this crate by document 01's number, which is 7 for all of them: a residue above 3, a rank above 7
-- in `val` and `rank_class`, a rank above 15 in `cost` and `contains`; and the largest that each accepts. Numbers and
-- limits are written out, so that none can become another in the definitions of Answers and in the code together.
-- Assumes nothing.
use Rattle.std.specs.Prelude.{◌≡◌, refl, true, false, ◌&&◌, List, [], ◌∷◌, ℕ, ltb, ℤ, pos}
use Rattle.rank.specs.Coord.{val_of}
use Rattle.rank.specs.Vector.{ranks_below}
use Rattle.rank.specs.Answers.{valued_of, ranked_of, ranked_number, lookup_number, classed_of, costed_of, held_of}

-- ---- refused
pub val-refused : (o rho : ℕ) → (ltb o 4 && ltb rho 8) ≡ false
    → valued_of o rho ≡ record { number = 7; value = pos 0 }
unfolding valued_of
val-refused o rho e = rw e

pub rank_refused : (o : ℕ) (y : ℤ) → ltb o 4 ≡ false → (ranked_number (ranked_of o y) ≡ 7) × (lookup_number o ≡ 7)
unfolding ranked_of lookup_number
rank_refused o y e = (rw e, rw e)

pub class-refused : (v : List ℕ) → ranks_below 8 v ≡ false → classed_of v ≡ record { number = 7; class = 0 }
unfolding classed_of
class-refused v e = rw e

pub cost-refused : (v : List ℕ) → ranks_below 16 v ≡ false → costed_of v ≡ record { number = 7; cost = 0 }
unfolding costed_of
cost-refused v e = rw e

pub held-refused : (C : ℕ) (cut v : List ℕ) → ranks_below 16 v ≡ false
    → held_of C cut v ≡ record { number = 7; held = false }
unfolding held_of
held-refused C cut v e = rw e

-- ---- accepted: residue 3 and rank 7, the last of -1, 3, -5, 7, -9, 11, -13, 15; rank 7 in a class; rank 15, whose
-- cost is 961
pub val-last : valued_of 3 7 ≡ record { number = 0; value = pos 15 }
unfolding valued_of val_of
val-last = refl

pub class-last : classed_of (7 ∷ []) ≡ record { number = 0; class = 0 }
unfolding classed_of ranks_below
class-last = refl

pub cost-last : costed_of (15 ∷ []) ≡ record { number = 0; cost = 961 }
unfolding costed_of ranks_below
cost-last = refl

pub held-last : held_of 961 (15 ∷ []) (15 ∷ []) ≡ record { number = 0; held = true }
unfolding held_of ranks_below
held-last = refl
