-- A count by magnitude and sign, how large it is, how many there are and where each of them stands. Assumes nothing.
use Rattle.std.specs.Prelude.{◌≡◌, refl, List, [], ◌∷◌, ◌++◌, ℤ, pos, negsuc, neg_ℤ, length, get_or}
use Rattle.std.proofs.Common.{ap, ◌∙◌, arith, div-le_self, zero-add, not-suc-le-zero, le_of_suc-le-suc, length-append, get_or-append-add}
use Prim.Native.Nat.{ℕ, zero, suc, ◌+◌, ◌*◌, ◌/◌, ◌%◌, ◌<◌, ◌≤◌, compare}
use Rattle.std.specs.Float.Ieee.Fits.{nearest-le}
use Rattle.std.proofs.Math.IntN.{pos-*ℤ-pos, negsuc-*ℤ-pos}
use Rattle.std.proofs.lemmas.List.{length-map}
use Rattle.std.proofs.Math.ListN.{get_or-append}
use Rattle.laws.specs.Laws.Lists.{map_at}
use Rattle.tetra.specs.Tetra.{point_of}
use Rattle.tetra.specs.Demand2.{point-length}
use Rattle.page.specs.Counts.{nearest, quotient_by, count_by, count_of, block_counts, page_counts}
use Rattle.page.specs.Laws.Nearest.{nearest_only}

-- ---- a magnitude in counts
pub nearest-small : (n d : ℕ) → nearest n d ≤ n + 1
nearest-small n d = omega (arith, nearest-le (n / d) (compare (n % d * 2) d), div-le_self n d)

nearest_zero : (d : ℕ) → 0 < d → 0 ≡ nearest 0 d
nearest_zero d D = nearest_only 0 d 0 D (omega arith, λ h. refl)

-- ---- of a product: the magnitude is rounded, and the sign put back
quotient-neg : (n d : ℕ) → 0 < d → quotient_by (neg_ℤ (pos n)) d ≡ neg_ℤ (pos (nearest n d))
quotient-neg zero d D = rw (← nearest_zero d D)
quotient-neg (suc n) d D = refl

pub count_pos : (a d n : ℕ) → count_by a d (pos n) ≡ pos (nearest (n * a) d)
unfolding count_by
count_pos a d n = ap (λ (z : ℤ). quotient_by z d) (pos-*ℤ-pos n a)

pub count-neg : (a d n : ℕ) → 0 < d → count_by a d (negsuc n) ≡ neg_ℤ (pos (nearest (suc n * a) d))
unfolding count_by
count-neg a d n D = ap (λ (z : ℤ). quotient_by z d) (negsuc-*ℤ-pos n a) ∙ quotient-neg (suc n * a) d D

-- ---- 24 counts a block
pub block-length : (num word : ℕ) → length (block_counts num word) ≡ 24
unfolding block_counts
block-length num word = length-map (point_of word) (count_of num) ∙ point-length word

pub page-length : (num : ℕ) (words : List ℕ) → length (page_counts num words) ≡ 24 * length words
unfolding page_counts
page-length num [] = refl
page-length num (w ∷ ws) =
    length-append (block_counts num w) (page_counts num ws) ∙ omega (arith, block-length num w, page-length num ws)

block_at_lem : (num word j : ℕ) → j < 24 → get_or (block_counts num word) j (pos 0) ≡ count_of num (get_or (point_of word) j (pos 0))
unfolding block_counts
block_at_lem num word j h = map_at ℤ ℤ (count_of num) (pos 0) (pos 0) (point_of word) j (omega (arith, point-length word))

-- the count of coordinate j of block i stands at 24 i + j
pub page-at : (num : ℕ) (words : List ℕ) (i j : ℕ) → i < length words → j < 24
    → get_or (page_counts num words) (24 * i + j) (pos 0) ≡ count_of num (get_or (point_of (get_or words i 0)) j (pos 0))
unfolding page_counts
page-at num [] i j h k = absurd (not-suc-le-zero h)
page-at num (w ∷ ws) zero j h k =
    ap (λ (n : ℕ). get_or (block_counts num w ++ page_counts num ws) n (pos 0)) (zero-add j)
    ∙ get_or-append (block_counts num w) (page_counts num ws) (pos 0) j (omega (arith, block-length num w))
    ∙ block_at_lem num w j k
page-at num (w ∷ ws) (suc i) j h k =
    let u = block_counts num w in
    let e : 24 * suc i + j ≡ length u + (24 * i + j) = omega (arith, block-length num w) in
    ap (λ (n : ℕ). get_or (u ++ page_counts num ws) n (pos 0)) e
    ∙ get_or-append-add u (page_counts num ws) (24 * i + j) (pos 0)
    ∙ page-at num ws i j (le_of_suc-le-suc h) k
