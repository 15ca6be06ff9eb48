-- Counts: what a page's numbers mean. Assumes nothing.
use Rattle.std.specs.Prelude.{◌≡◌, List, [], ◌∷◌, ◌++◌, map, ℕ, suc, ◌*◌, ◌%◌, ◌≤◌, ℤ, pos, negsuc, neg_ℤ, nat_abs, ◌-ℤ◌, ◌*ℤ◌}
use Rattle.std.specs.Float.Ieee.Nearest.{closest}
use Rattle.tetra.specs.Tetra.{point_of}

-- n / d as the nearest whole number, a half to the even one: the rule of IEEE 754, by which the library rounds its doubles
abbrev pub nearest : ℕ → ℕ → ℕ
nearest n d = closest n d

-- z / d as the nearest whole number, a half to the even one: the magnitude is rounded, and the sign put back
abbrev pub quotient_by : ℤ → ℕ → ℤ
quotient_by (pos n) d = pos (nearest n d)
quotient_by (negsuc n) d = neg_ℤ (pos (nearest (suc n) d))

-- a coordinate in counts: coordinate times a divided by d
unfoldable pub count_by : ℕ → ℕ → ℤ → ℤ
count_by a d y = quotient_by (y *ℤ pos a) d

-- a page's are times num divided by 256
abbrev pub count_of : ℕ → ℤ → ℤ
count_of num = count_by num 256

-- the 24 counts of a block
unfoldable pub block_counts : ℕ → ℕ → List ℤ
block_counts num word = map (count_of num) (point_of word)

-- the counts of all blocks, in the order of the page
unfoldable pub page_counts : ℕ → List ℕ → List ℤ
page_counts num [] = []
page_counts num (w ∷ ws) = block_counts num w ++ page_counts num ws

-- The same said with no computation: c is off z / d by at most a half, and even where it is off by just a half. Both sides are times 2 d.
-- CountRule shows that each count is that, and that no other number is.
abbrev pub ToEven : ℤ → ℕ → ℤ → Type 0
ToEven z d c = (2 * nat_abs (c *ℤ pos d -ℤ z) ≤ d) × (2 * nat_abs (c *ℤ pos d -ℤ z) ≡ d → nat_abs c % 2 ≡ 0)
