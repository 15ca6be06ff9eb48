-- What this crate's functions answer, for every input, in document 01's terms: number 0 where a call is accepted, and `out_of_range` with
-- a value of 0 where it is refused. Each record or type of answers has a definition that reads it off the Result that the code answers.
-- Assumes nothing.
use Rattle.std.specs.Prelude.{Bool, false, cond, ◌&&◌, List, map, ℕ, ◌%◌, ltb, eqb, ℤ, pos, Option, Some, None, Result, Ok, Err}
use Rattle.laws.specs.Words.{mod_z}
use Rattle.refusal.specs.declared.Refusal.{Refusal}
use Rattle.refusal.specs.Refusal.{out_of_range, number_of}
use Rattle.rank.specs.Coord.{rank_of, val_of}
use Rattle.rank.specs.Vector.{ranks_below, class, cost, pack, within}

-- ---- val: the member of o + 4Z at the rank rho; refused where o is above 3 or the rank above 7
pub record Valued : Type 0 where
  pub number : ℕ
  pub value : ℤ

abbrev pub valued_by : Result ℤ Refusal → Valued
valued_by (Ok y) = record { number = 0; value = y }
valued_by (Err r) = record { number = number_of r; value = pos 0 }

unfoldable pub valued_of : ℕ → ℕ → Valued
valued_of o rho =
    cond (ltb o 4 && ltb rho 8) (record { number = 0; value = val_of o rho }) (record { number = out_of_range; value = pos 0 })

-- ---- rank_of: the rank of y in o + 4Z; refused where o is above 3
-- how far the lookup reaches: it answers the ranks below this, and nothing from there on
abbrev pub reach : ℕ
reach = 8

pub data Ranked : Type 0 where
  Rank : ℕ → Ranked
  Nothing : Ranked
  Refused : Ranked

abbrev pub ranked_by : Result (Option ℕ) Refusal → Ranked
ranked_by (Ok (Some r)) = Rank r
ranked_by (Ok None) = Nothing
ranked_by (Err r) = Refused

unfoldable pub ranked_of : ℕ → ℤ → Ranked
ranked_of o y = cond (ltb o 4) (cond (eqb (mod_z y 4) o && ltb (rank_of y) reach) (Rank (rank_of y)) Nothing) Refused

-- document 01's number of each case, and the rank that it answers
abbrev pub ranked_number : Ranked → ℕ
ranked_number (Rank r) = 0
ranked_number Nothing = 0
ranked_number Refused = out_of_range

abbrev pub rank_in : Ranked → Option ℕ
rank_in (Rank r) = Some r
rank_in Nothing = None
rank_in Refused = None

-- what they are to be
unfoldable pub lookup_number : ℕ → ℕ
lookup_number o = cond (ltb o 4) 0 out_of_range

unfoldable pub lookup_rank : ℕ → ℤ → Option ℕ
lookup_rank o y = cond (ltb o 4 && (eqb (mod_z y 4) o && ltb (rank_of y) reach)) (Some (rank_of y)) None

-- ---- mark: the rank of y in its own o + 4Z where the lookup reaches it, and elsewhere the mark 15, which says none
abbrev pub no_rank : ℕ
no_rank = 15

unfoldable pub mark_of : ℤ → ℕ
mark_of y = cond (ltb (rank_of y) reach) (rank_of y) no_rank

-- the marks of a row
abbrev pub marks_of : List ℤ → List ℕ
marks_of t = map mark_of t

-- ---- rank_class: refused where a rank is above 7
pub record Classed : Type 0 where
  pub number : ℕ
  pub class : ℕ

abbrev pub classed_by : Result ℕ Refusal → Classed
classed_by (Ok c) = record { number = 0; class = c }
classed_by (Err r) = record { number = number_of r; class = 0 }

unfoldable pub classed_of : List ℕ → Classed
classed_of v = cond (ranks_below 8 v) (record { number = 0; class = class v }) (record { number = out_of_range; class = 0 })

-- ---- cost: refused where a rank is above 15
pub record Costed : Type 0 where
  pub number : ℕ
  pub cost : ℕ

abbrev pub costed_by : Result ℕ Refusal → Costed
costed_by (Ok c) = record { number = 0; cost = c }
costed_by (Err r) = record { number = number_of r; cost = 0 }

unfoldable pub costed_of : List ℕ → Costed
costed_of v = cond (ranks_below 16 v) (record { number = 0; cost = cost v }) (record { number = out_of_range; cost = 0 })

-- ---- contains, of the bound of cost C and this cut: refused where a rank is above 15
pub record Held : Type 0 where
  pub number : ℕ
  pub held : Bool

abbrev pub held_by : Result Bool Refusal → Held
held_by (Ok b) = record { number = 0; held = b }
held_by (Err r) = record { number = number_of r; held = false }

unfoldable pub held_of : ℕ → List ℕ → List ℕ → Held
held_of C cut v = cond (ranks_below 16 v) (record { number = 0; held = within C cut v }) (record { number = out_of_range; held = false })

-- ---- pack: the low four bits of each rank
unfoldable pub packed_of : List ℕ → ℕ
packed_of v = pack (map (λ (r : ℕ). r % 16) v)
