-- A coordinate y = p + 2c + 4k: its parity p, its bit c, its quotient k, all from the floor (-3 has p = 1, c = 0, k = -1); and its rank
-- among the members of o + 4Z, o = p + 2c, counted outward from zero, the positive one first on a tie. Assumes nothing.
use Rattle.std.specs.Prelude.{Bool, true, false, cond, List, [], ◌∷◌, ℕ, zero, suc, ◌+◌, ◌*◌, ◌/◌, ◌%◌, eqb, ℤ, pos, negsuc}
use Rattle.laws.specs.Words.{mod_z, div_z}

abbrev pub parity_of : ℤ → ℕ
parity_of y = mod_z y 2

abbrev pub bit_of : ℤ → ℕ
bit_of y = mod_z (div_z y 2) 2

abbrev pub k_of : ℤ → ℤ
k_of y = div_z y 4

-- ---- the whole numbers outward from zero: 0, 1, -1, 2, -2, ..
abbrev pub outward : ℕ → ℤ
outward zero = pos 0
outward (suc n) = cond (eqb (n % 2) 0) (pos (n / 2 + 1)) (negsuc (n / 2))

-- where a whole number stands among them
abbrev pub standing : ℤ → ℕ
standing (pos zero) = 0
standing (pos (suc n)) = 2 * n + 1
standing (negsuc n) = 2 * n + 2

-- how many of the first n of them leave the remainder o
abbrev pub count_to : ℕ → ℕ → ℕ
count_to o zero = 0
count_to o (suc n) = cond (eqb (mod_z (outward n) 4) o) 1 0 + count_to o n

-- the rank of y: how many members of its own o + 4Z stand before it
unfoldable pub rank_of : ℤ → ℕ
rank_of y = count_to (mod_z y 4) (standing y)

-- ---- the members of o + 4Z by rank
abbrev keep : Bool → ℤ → List ℤ → List ℤ
keep true z l = z ∷ l
keep false z l = l

-- of the numbers of magnitude m + 1, .., m + n, those that leave o, the positive one of each magnitude first
abbrev pub members : ℕ → ℕ → ℕ → List ℤ
members o m zero = []
members o m (suc n) =
    keep (eqb (mod_z (pos (suc m)) 4) o) (pos (suc m)) (keep (eqb (mod_z (negsuc m) 4) o) (negsuc m) (members o (suc m) n))

abbrev nth : List ℤ → ℕ → ℤ
nth [] k = pos 0
nth (z ∷ l) zero = z
nth (z ∷ l) (suc k) = nth l k

-- the member at the rank rho, below 8: magnitudes up to 16 hold the first eight of each o
unfoldable pub val_of : ℕ → ℕ → ℤ
val_of o rho = nth (keep (eqb o 0) (pos 0) (members o 0 16)) rho
