-- The listing sorted by cost and then by ranks, split by class and cut, is the table. Assumes nothing.
use Rattle.std.specs.Prelude.{◌≡◌, refl, cond, List, [], ◌∷◌, ◌++◌, ℕ, zero, suc, ◌+◌, ◌^◌, eqb, take, drop}
use Rattle.rank.specs.Vector.{class, unpack, before}
use Rattle.listing.specs.Listing.{listing, under, grow}
use Rattle.rows.specs.Rows.{rows}

-- ---- sorted
-- two ordered lists of packed rows merged into one: of the two first rows, the one that comes before the other goes first.
-- Each step takes one row; n is more than the rows there are.
unfoldable pub merge : ℕ → List ℕ → List ℕ → List ℕ
merge zero xs ys = []
merge (suc n) [] ys = ys
merge (suc n) (x ∷ xs) [] = x ∷ xs
merge (suc n) (x ∷ xs) (y ∷ ys) =
    cond (before (unpack 8 y) (unpack 8 x)) (y ∷ merge n (x ∷ xs) ys) (x ∷ merge n xs (y ∷ ys))

-- the first 2 ^ d packed rows of a list, in order
unfoldable pub sort : ℕ → List ℕ → List ℕ
sort zero ws = take 1 ws
sort (suc d) ws = merge (2 ^ suc d + 1) (sort d (take (2 ^ d) ws)) (sort d (drop (2 ^ d) ws))

-- all of the listing: it has 14,674 rows, fewer than 2 ^ 14
unfoldable pub sorted : List ℕ
sorted = sort 14 listing

-- ---- split
-- the rows of class c, in their order
unfoldable pub of_class : ℕ → List ℕ → List ℕ
of_class c [] = []
of_class c (w ∷ ws) = let rest = of_class c ws in cond (eqb (class (unpack 8 w)) c) (w ∷ rest) rest

-- ---- and cut
-- the first n rows of class 0, then the first n of class 1
unfoldable pub first_of : ℕ → List ℕ → List ℕ
first_of n ws = take n (of_class 0 ws) ++ take n (of_class 1 ws)

-- the table is the listing, sorted, split and cut
pub table_sorted : rows ≡ first_of 2048 sorted
unfolding rows first_of of_class sorted sort merge listing under grow
table_sorted = refl

-- the middle section's rows are the first 2,048 of both classes together: 1,240 of class 0 and 808 of class 1
pub middle-sorted : take 1240 rows ++ take 808 (drop 2048 rows) ≡ first_of 2048 (take 2048 sorted)
unfolding rows first_of of_class sorted sort merge listing under grow
middle-sorted = refl
