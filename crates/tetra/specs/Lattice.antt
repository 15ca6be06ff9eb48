-- The lattice, and which of its points have a word, as document 01 has them. Points are lists of 24 coordinates in natural order. No table
-- stands behind a definition of this file: codewords come from the twelve columns, ranks by counting, bounds from their cost and cut.
-- Assumes nothing.
use Rattle.std.specs.Prelude.{◌≡◌, Bool, cond, List, map, ℕ, ◌*◌, ◌<◌, T, eqb, ℤ, pos, length, get_or, take, drop}
use Rattle.laws.specs.Words.{mod_z}
use Rattle.rank.specs.Coord.{parity_of}
use Rattle.rank.specs.Vector.{class, in_class, in_middle}
use Rattle.rank.specs.Section.{bits_of, ranks_of, k_sum}
use Rattle.trellis.specs.Code.{codeword_of, columns}
use Rattle.trellis.specs.Trio.{order}

-- the coordinates in trio order: the set bits of each octad ascending, in the order of the octads
unfoldable pub trio : List ℤ → List ℤ
trio y = map (λ (i : ℕ). get_or y i (pos 0)) order

-- a codeword in trio order: the exclusive-or of the columns at the set bits of a label
pub record Codeword (c : ℕ) : Type 0 where
  pub label : ℕ
  pub made : codeword_of columns label ≡ c

-- a lattice point, y = p + 2c + 4k in each coordinate: all coordinates of one parity p, a codeword of bits c, and a sum of k congruent to
-- p mod 2. Halving and remainder follow the floor.
pub record LatticePoint (y : List ℤ) : Type 0 where
  pub size : length y ≡ 24
  pub p : ℕ
  pub one_parity_lem : (i : ℕ) → i < 24 → parity_of (get_or y i (pos 0)) ≡ p
  pub codeword : Codeword (bits_of (trio y))
  pub sum_of_k : mod_z (k_sum y) 2 ≡ p

-- section s, which is 0, 1 or 2: eight coordinates of trio order
abbrev pub section : List ℤ → ℕ → List ℤ
section y s = take 8 (drop (8 * s) (trio y))

abbrev pub section_ranks : List ℤ → ℕ → List ℕ
section_ranks y s = ranks_of (section y s)

-- the ranks meet the bound of their own class
abbrev pub in_own_class : List ℕ → Bool
in_own_class v = in_class (class v) v

-- section s meets its bound: the second that of the middle, the others that of their own class
unfoldable pub in_bound : List ℤ → ℕ → Bool
in_bound y s = cond (eqb s 1) (in_middle (section_ranks y s)) (in_own_class (section_ranks y s))

-- a lattice point has a word exactly when, besides, its first and third sections meet their own class's bound and its second the middle's
pub record HasWord (y : List ℤ) : Type 0 where
  pub point : LatticePoint y
  pub first : T (in_own_class (section_ranks y 0))
  pub second : T (in_middle (section_ranks y 1))
  pub third : T (in_own_class (section_ranks y 2))
