-- The words of lists, of order and of whole numbers that definitions of other crates use: what a reader has to believe of this crate.
-- Assumes nothing.
use Rattle.std.specs.Prelude.{Bool, true, false, cond, List, [], ◌∷◌, eqb, ℤ, pos, negsuc}
use Prim.Native.Nat.{ℕ, zero, suc, ◌+◌, ◌-◌, ◌*◌, ◌/◌, ◌%◌, compare, Ordering}

-- f 0, f 1, .., n of them. It stays shut: at a large n it would be written out wherever it stands
unfoldable pub tab {ℓ} : {A : Type ℓ} → (ℕ → A) → ℕ → List A
tab f zero = []
tab f (suc n) = f 0 ∷ tab (λ (k : ℕ). f (suc k)) n

-- the first place at which c stands; the length where it stands nowhere
abbrev pub seek : ℕ → List ℕ → ℕ
seek c [] = 0
seek c (x ∷ xs) = cond (eqb x c) 0 (suc (seek c xs))

-- smaller: yes; equal: as the rest says; greater: no
abbrev pub pick3 : Ordering → Bool → Bool
pick3 Ordering.lt b = true
pick3 Ordering.eq b = b
pick3 Ordering.gt b = false

-- lists compared, the first element most significant: v is at most w, and v is below w
abbrev pub lex_le : List ℕ → List ℕ → Bool
lex_le [] w = true
lex_le (x ∷ v) [] = false
lex_le (x ∷ v) (y ∷ w) = pick3 (compare x y) (lex_le v w)

abbrev pub lex_lt : List ℕ → List ℕ → Bool
lex_lt [] w = false
lex_lt (x ∷ v) [] = false
lex_lt (x ∷ v) (y ∷ w) = pick3 (compare x y) (lex_lt v w)

-- quotient and remainder from the floor: -3 = 1 + 4 * -1
abbrev pub mod_z : ℤ → ℕ → ℕ
mod_z (pos n) m = n % m
mod_z (negsuc n) m = m - 1 - n % m

abbrev pub div_z : ℤ → ℕ → ℤ
div_z (pos n) m = pos (n / m)
div_z (negsuc n) m = negsuc (n / m)

-- whether two whole numbers are one
abbrev pub eq_z : ℤ → ℤ → Bool
eq_z (pos a) (pos b) = eqb a b
eq_z (pos a) (negsuc b) = false
eq_z (negsuc a) (pos b) = false
eq_z (negsuc a) (negsuc b) = eqb a b

-- a number as the difference of its two parts, of which one is 0
abbrev pub pos_part : ℤ → ℕ
pos_part (pos n) = n
pos_part (negsuc n) = 0

abbrev pub neg_part : ℤ → ℕ
neg_part (pos n) = 0
neg_part (negsuc n) = suc n

-- the sum of the squares
abbrev pub square : ℤ → ℕ
square (pos n) = n * n
square (negsuc n) = suc n * suc n

unfoldable pub norm : List ℤ → ℕ
norm [] = 0
norm (v ∷ y) = square v + norm y

-- how far two numbers are apart
abbrev pub gap : ℕ → ℕ → ℕ
gap p n = (p - n) + (n - p)

-- how many of the d low bits of w are set
abbrev pub weight : ℕ → ℕ → ℕ
weight zero w = 0
weight (suc d) w = w % 2 + weight d (w / 2)
