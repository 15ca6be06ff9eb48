-- What `list` answers, and what the buffer lent to it holds afterwards. Assumes nothing.
use Rattle.std.specs.Prelude.{cond, List, ◌++◌, ℕ, ltb, length, drop, Result, Ok, Err}
use Rattle.refusal.specs.declared.Refusal.{Refusal}
use Rattle.refusal.specs.Refusal.{no_room, number_of}
use Rattle.listing.specs.Listing.{listing}

-- the cells that the listing takes: its length, as `count` of Laws proves
abbrev pub cells : ℕ
cells = 14674

-- an answer of `list` in document 01's terms: number 0 and how many cells it filled, or the number of a refusal and none
pub record Listed : Type 0 where
  pub number : ℕ
  pub count : ℕ

abbrev pub listed_by : Result ℕ Refusal → Listed
listed_by (Ok n) = record { number = 0; count = n }
listed_by (Err r) = record { number = number_of r; count = 0 }

-- of a buffer of n cells: number 8 and count 0 where it is too short, else number 0 and the count
abbrev pub answered : ℕ → Listed
answered n = cond (ltb n cells) (record { number = no_room; count = 0 }) (record { number = 0; count = cells })

-- the buffer afterwards: as it was where it is too short, else the listing and, past it, the cells as they were
abbrev pub written : List ℕ → List ℕ
written buf = cond (ltb (length buf) cells) buf (listing ++ drop cells buf)
