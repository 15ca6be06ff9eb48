-- What the loop over a block's coordinates adds at each, and the loop over a page's words, and that it fits an i32. Assumes nothing.
use mathlib.Core.Path.{◌≡◌, refl, ap, sym, ◌∙◌}
use mathlib.Core.List.{List, [], ◌∷◌, ◌++◌}
use Prim.Native.Nat.{ℕ, suc, ◌+◌, ◌^◌, ◌<◌, ◌≤◌}
use native.Mathlib.Nat.{mul-le-mul, add-zero}
use native.Mathlib.Numerals.{add-one}
use native.Mathlib.Omega.{arith}
use lib.IntN.{ℤ, pos, negsuc, nat_abs, ◌+ℤ◌, ◌*ℤ◌}
use lib.ListN.{length, get_or, take, drop, take-append-drop}
use lib.Seq.{take-suc, length-take-le}
use mir.Syntax.{w32}
use mir.Val.{SFits}
use Rattle.laws.specs.Words.{square, norm}
use Rattle.laws.specs.Laws.Whole.{sub_by}
use Rattle.summary.specs.Summary.{taken, row_of, block_row, page_row}
use Rattle.summary.specs.Laws.Rows.{cell, joined, norm-append, row_step, block-sum, page-sum, odds_most}

-- ---- a coordinate's square
pub square_is : (y : ℤ) → y *ℤ y ≡ pos (square y)
square_is (pos n) = refl
square_is (negsuc n) = refl

pub square_most : (y : ℤ) → nat_abs y ≤ 10 → square y ≤ 100
square_most (pos n) h = mul-le-mul h h
square_most (negsuc n) h = mul-le-mul h h

pub pos-fits : (n : ℕ) → n < 2 ^ 31 → SFits w32 (pos n)
pos-fits n h = record { sfits = omega arith }

pub sum_fits : (a b : ℤ) → nat_abs a ≤ 2 ^ 29 → nat_abs b ≤ 2 ^ 29 → SFits w32 (a +ℤ b)
sum_fits (pos a) (pos b) h k = record { sfits = omega arith }
sum_fits (pos a) (negsuc b) h k = sub_by (SFits w32) a (suc b) (λ l. record { sfits = omega arith }) (λ l. record { sfits = omega arith })
sum_fits (negsuc a) (pos b) h k = sub_by (SFits w32) b (suc a) (λ l. record { sfits = omega arith }) (λ l. record { sfits = omega arith })
sum_fits (negsuc a) (negsuc b) h k = record { sfits = omega arith }

-- ---- the coordinates before j, and the one at j
pub norm_front : (ys : List ℤ) (j : ℕ) → norm (take j ys) ≤ norm ys
norm_front ys j = omega (arith, sym (norm-append (take j ys) (drop j ys)) ∙ ap norm (take-append-drop j ys))

take_next : (ys : List ℤ) (j : ℕ) → j < length ys → take (j + 1) ys ≡ take j ys ++ (get_or ys j (pos 0) ∷ [])
take_next ys j h = rw add-one (take-suc ys j (pos 0) h)

pub norm-next : (ys : List ℤ) (j : ℕ) → j < length ys → norm (take (j + 1) ys) ≡ norm (take j ys) + square (get_or ys j (pos 0))
unfolding norm
norm-next ys j h =
    ap norm (take_next ys j h) ∙ norm-append (take j ys) (get_or ys j (pos 0) ∷ [])
    ∙ ap (λ (n : ℕ). norm (take j ys) + n) (add-zero (square (get_or ys j (pos 0))))

taken-last : (f : ℤ → ℤ → ℤ) (m : ℤ) (xs : List ℤ) (y : ℤ) → taken f m (xs ++ (y ∷ [])) ≡ f (taken f m xs) y
unfolding taken
taken-last f m [] y = refl
taken-last f m (x ∷ xs) y = taken-last f (f m x) xs y

pub taken_next : (f : ℤ → ℤ → ℤ) (m : ℤ) (ys : List ℤ) (j : ℕ) → j < length ys
    → taken f m (take (j + 1) ys) ≡ f (taken f m (take j ys)) (get_or ys j (pos 0))
taken_next f m ys j h = ap (taken f m) (take_next ys j h) ∙ taken-last f m (take j ys) (get_or ys j (pos 0))

-- ---- the words before i, and the one at i
pub row_next : (ws : List ℕ) (i : ℕ) → i < length ws → joined i (page_row (take i ws)) (block_row (get_or ws i 0)) ≡ page_row (take (i + 1) ws)
row_next ws i h =
    let n : length (take i ws) ≡ i = length-take-le i ws (omega arith) in
    let t : take (i + 1) ws ≡ take i ws ++ (get_or ws i 0 ∷ []) = rw add-one (take-suc ws i 0 h) in
    rw t (rw n at (sym (row_step (take i ws) (get_or ws i 0))))

-- ---- the cells of rows that are added to others are small
pub page-fits : (ws : List ℕ) → length ws ≤ 64 → (nat_abs (cell (page_row ws) 0) ≤ 2 ^ 29) × (nat_abs (cell (page_row ws) 3) ≤ 2 ^ 29)
unfolding page_row row_of
page-fits ws h = (omega (arith, page-sum ws), omega (arith, odds_most ws))

pub block-fits : (w : ℕ) → (nat_abs (cell (block_row w) 0) ≤ 2 ^ 29) × (nat_abs (cell (block_row w) 3) ≤ 2 ^ 29)
unfolding block_row row_of
block-fits w = (omega (arith, block-sum w), omega arith)
