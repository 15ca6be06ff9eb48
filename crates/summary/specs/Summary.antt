-- The summary of a page: request 2026-04 of document 02. Rows of four cells, first the page's, then one for each block: the sum of the squares
-- of the coordinates, the largest and the smallest coordinate, and how many blocks are odd, which of one block is its parity p. One
-- definition serves both kinds of row, so that 'over all blocks' is over all coordinates. Definitions only.
use Rattle.std.specs.Prelude.{cond, List, [], ◌∷◌, ◌++◌, ℕ, ◌+◌, ◌*◌, ◌%◌, ℤ, pos, get_or}
use Rattle.std.specs.Int.Signed.{lt_z}
use Rattle.laws.specs.Words.{norm}
use Rattle.tetra.specs.Tetra.{point_of}

-- ---- the largest and the smallest of a list
abbrev pub larger : ℤ → ℤ → ℤ
larger a b = cond (lt_z a b) b a

abbrev pub smaller : ℤ → ℤ → ℤ
smaller a b = cond (lt_z b a) b a

-- the elements taken one by one, from m on
unfoldable pub taken : (ℤ → ℤ → ℤ) → ℤ → List ℤ → ℤ
taken f m [] = m
taken f m (y ∷ ys) = taken f (f m y) ys

-- it starts at the first element and never at 0, which no coordinate of an odd point is; of no elements it is 0
abbrev pub extreme : (ℤ → ℤ → ℤ) → List ℤ → ℤ
extreme f ys = taken f (get_or ys 0 (pos 0)) ys

-- ---- a row: of coordinates, of which `odd` blocks are odd. Of none it is all zeros
unfoldable pub row_of : List ℤ → ℕ → List ℤ
row_of ys odd = pos (norm ys) ∷ extreme larger ys ∷ extreme smaller ys ∷ pos odd ∷ []

-- a block's parity p is bit 0 of its word
unfoldable pub block_row : ℕ → List ℤ
block_row w = row_of (point_of w) (w % 2)

-- all coordinates of some words, and how many of the words are odd
unfoldable pub points : List ℕ → List ℤ
points [] = []
points (w ∷ ws) = point_of w ++ points ws

unfoldable pub odds : List ℕ → ℕ
odds [] = 0
odds (w ∷ ws) = w % 2 + odds ws

unfoldable pub page_row : List ℕ → List ℤ
page_row ws = row_of (points ws) (odds ws)

-- ---- the summary: the page's row, and the row of each block, in the order of the page
unfoldable pub block_rows : List ℕ → List ℤ
block_rows [] = []
block_rows (w ∷ ws) = block_row w ++ block_rows ws

unfoldable pub summary_of : List ℕ → List ℤ
summary_of ws = page_row ws ++ block_rows ws

-- how many cells the summary of n blocks takes
abbrev pub cells_for : ℕ → ℕ
cells_for n = 4 * (n + 1)
