-- Coordinates in a row, coordinate 0 first: a section is eight of them, a point three sections. Assumes nothing.
use Rattle.std.specs.Prelude.{Bool, true, ◌&&◌, List, [], ◌∷◌, map, ℕ, ◌+◌, ◌*◌, ◌/◌, ◌%◌, eqb, ℤ, pos, ◌+ℤ◌}
use Rattle.rank.specs.Coord.{parity_of, bit_of, k_of, rank_of, val_of}

-- the coordinates of parity p whose bits are those of c, bit 0 first, and whose ranks are v
unfoldable pub point_at : ℕ → ℕ → List ℕ → List ℤ
point_at p c [] = []
point_at p c (r ∷ v) = val_of (p + 2 * (c % 2)) r ∷ point_at p (c / 2) v

-- all coordinates have the parity p
unfoldable pub uniform : ℕ → List ℤ → Bool
uniform p [] = true
uniform p (y ∷ t) = eqb (parity_of y) p && uniform p t

-- the bits c as one number, coordinate 0 lowest
unfoldable pub bits_of : List ℤ → ℕ
bits_of [] = 0
bits_of (y ∷ t) = bit_of y + 2 * bits_of t

abbrev pub ranks_of : List ℤ → List ℕ
ranks_of t = map rank_of t

-- the sum of k
unfoldable pub k_sum : List ℤ → ℤ
k_sum [] = pos 0
k_sum (y ∷ t) = k_of y +ℤ k_sum t
