-- A page's counts are i32s. Assumes nothing.
use Rattle.std.specs.Prelude.{List, [], ◌∷◌, ℕ, zero, suc, ◌*◌, ◌^◌, ◌<◌, ◌≤◌, ℤ, pos, negsuc, neg_ℤ, nat_abs, get_or}
use Rattle.std.proofs.Common.{arith, mul-le-mul, not-suc-le-zero}
use Rattle.laws.specs.Laws.Lists.{map_at}
use Rattle.text.specs.Rows.{IsI32, AllI32}
use Rattle.tetra.specs.Tetra.{point_of}
use Rattle.tetra.specs.Demand2.{point-length, coordinate-small}
use Rattle.page.specs.Counts.{nearest, count_of, block_counts, page_counts}
use Rattle.page.specs.Laws.Count.{nearest-small, count_pos, count-neg, block-length}
use Rattle.trace.specs.Laws.Reader.{both_fit}

-- a magnitude in counts
small : (m num : ℕ) → m ≤ 10 → num ≤ 65535 → nearest (m * num) 256 < 2 ^ 31
small m num h k = omega (arith, nearest-small (m * num) 256, mul-le-mul {n₁ = m} {m₁ = num} {n₂ = 10} {m₂ = 65535} h k)

minus-fits : (n : ℕ) → n < 2 ^ 31 → IsI32 (neg_ℤ (pos n))
minus-fits zero h = h
minus-fits (suc n) h = omega arith

count_fits : (num : ℕ) (y : ℤ) → nat_abs y ≤ 10 → num ≤ 65535 → IsI32 (count_of num y)
count_fits num (pos n) h k = rw (count_pos num 256 n) (small n num h k)
count_fits num (negsuc n) h k = rw (count-neg num 256 n (omega arith)) (minus-fits (nearest (suc n * num) 256) (small (suc n) num h k))

block_fit : (num word : ℕ) → num ≤ 65535 → AllI32 (block_counts num word)
unfolding block_counts
block_fit num word h k l =
    let i : k < 24 = omega (arith, block-length num word) in
    rw (map_at ℤ ℤ (count_of num) (pos 0) (pos 0) (point_of word) k (omega (arith, point-length word)))
    (count_fits num (get_or (point_of word) k (pos 0)) (coordinate-small word k i) h)

pub counts_fit : (num : ℕ) (words : List ℕ) → num ≤ 65535 → AllI32 (page_counts num words)
unfolding page_counts
counts_fit num [] h = λ k l. absurd (not-suc-le-zero l)
counts_fit num (w ∷ ws) h = both_fit (block_counts num w) (page_counts num ws) (block_fit num w h) (counts_fit num ws h)
