-- What the proof speaks of besides the lattice by sections (Lattice, Sections): sums by index, sections that have a packed row, settings
-- of the shrinks. Link says that a point that has a word by document 01 has such rows, Searched that every setting is one. Definitions only.
use Rattle.std.specs.Prelude.{◌≡◌, true, List, ℕ, zero, suc, ◌+◌, ◌%◌, ◌^◌, ◌≤◌, ◌<◌, get_or, ℤ, pos}
use Rattle.laws.specs.Words.{mod_z}
use Rattle.rank.specs.Vector.{sq}
use Rattle.search.specs.declared.Closed.{Closed}
use Rattle.search.specs.Bound.{holds}
use Rattle.search.specs.Entries.{Rule, rank_at, section_at}

-- ---- sums
-- f 0 + f 1 + .. + f (n - 1)
unfoldable pub sum_to : (ℕ → ℕ) → ℕ → ℕ
sum_to f zero = 0
sum_to f (suc n) = sum_to f n + f n

-- the parity of a whole number, and of a sum of whole numbers
abbrev pub odd_k : ℤ → ℕ
odd_k k = mod_z k 2

abbrev pub par_k : (ℕ → ℤ) → ℕ → ℕ
par_k k n = sum_to (λ j. odd_k (k j)) n % 2

-- ---- a coordinate of a point
abbrev pub at24 : List ℤ → ℕ → ℤ
at24 z j = get_or z j (pos 0)

-- ---- the section s of parity p and byte c has a row under the bound b: its eight ranks, packed, whose cost and order the bound admits
pub record RowOf (p c : ℕ) (b : Closed) (s : ℕ → ℤ) : Type 0 where
  pub key : ℕ
  pub key-lt : key < 2 ^ 32
  pub at : (j : ℕ) → j < 8 → s j ≡ section_at p c key j
  pub within : holds b (sum_to (λ j. sq (rank_at key j)) 8) key ≡ true

-- ---- an accepted setting of the shrinks runs at most the eight there are
pub record RuleOk (u : Rule) : Type 0 where
  pub ends : u.ends ≤ 8
  pub mids : u.mids ≤ 8
