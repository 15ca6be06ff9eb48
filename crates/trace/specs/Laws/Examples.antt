-- A trace, and the limits of one, computed from texts written out: so no key, figure or limit can become another in the definitions and in the
-- code together. Assumes nothing.
use Rattle.std.specs.Prelude.{◌≡◌, refl, List, [], ◌∷◌, ◌++◌, ℕ, pos, negsuc, replicate}
use Rattle.text.specs.Text.{bytes}
use Rattle.text.specs.Lines.{begins, decimal_at, decimal_line_at}
use Rattle.text.specs.Rows.{below_at, signed_at, numbers_from, list_line_at}
use Rattle.trace.specs.Answer.{trace, malformed}
use Rattle.trace.specs.Reader.{block_at, blocks_at, trace_in}

-- ---- what unpage prints of document 01's page, behind its num line
pub example_reads : trace_in (bytes "num=128\nblock=0\ncounts=0,0,0,0,0,0,0,0,0,0,0,0,0,0,0,0,0,0,0,0,0,0,0,-2\n")
    ≡ trace 128 1 (replicate 23 (pos 0) ++ (negsuc 1 ∷ []))
unfolding trace_in blocks_at block_at list_line_at numbers_from signed_at below_at decimal_line_at decimal_at begins
example_reads = refl

-- ---- num is a u32: whether it is a page's, the reader does not ask
pub least_num : trace_in (bytes "num=0\n") ≡ trace 0 0 []
unfolding trace_in blocks_at decimal_line_at decimal_at begins
least_num = refl

pub most_num : trace_in (bytes "num=4294967295\n") ≡ trace 4294967295 0 []
unfolding trace_in blocks_at decimal_line_at decimal_at begins
most_num = refl

pub beyond_num : trace_in (bytes "num=4294967296\n") ≡ malformed
unfolding trace_in blocks_at decimal_line_at decimal_at begins
beyond_num = refl

-- ---- a block of the index with this first sample, and 23 zeros
abbrev block : List ℕ → List ℕ → List ℕ
block index first = bytes "block=" ++ (index ++ (bytes "\ncounts=" ++ (first ++ bytes ",0,0,0,0,0,0,0,0,0,0,0,0,0,0,0,0,0,0,0,0,0,0,0\n")))

-- a sample is an i32
pub least_sample : trace_in (bytes "num=1\n" ++ block (bytes "0") (bytes "-2147483648")) ≡ trace 1 1 (negsuc 2147483647 ∷ replicate 23 (pos 0))
unfolding trace_in blocks_at block_at list_line_at numbers_from signed_at below_at decimal_line_at decimal_at begins
least_sample = refl

pub below-samples : trace_in (bytes "num=1\n" ++ block (bytes "0") (bytes "-2147483649")) ≡ malformed
unfolding trace_in blocks_at block_at list_line_at numbers_from signed_at below_at decimal_line_at decimal_at begins
below-samples = refl

pub most_sample : trace_in (bytes "num=1\n" ++ block (bytes "0") (bytes "2147483647")) ≡ trace 1 1 (pos 2147483647 ∷ replicate 23 (pos 0))
unfolding trace_in blocks_at block_at list_line_at numbers_from signed_at below_at decimal_line_at decimal_at begins
most_sample = refl

pub above-samples : trace_in (bytes "num=1\n" ++ block (bytes "0") (bytes "2147483648")) ≡ malformed
unfolding trace_in blocks_at block_at list_line_at numbers_from signed_at below_at decimal_line_at decimal_at begins
above-samples = refl

-- -0 is none
pub minus_zero : trace_in (bytes "num=1\n" ++ block (bytes "0") (bytes "-0")) ≡ malformed
unfolding trace_in blocks_at block_at list_line_at numbers_from signed_at below_at decimal_line_at decimal_at begins
minus_zero = refl

-- ---- blocks stand in order from 0
pub two_blocks : trace_in (bytes "num=1\n" ++ (block (bytes "0") (bytes "7") ++ block (bytes "1") (bytes "-8")))
    ≡ trace 1 2 ((pos 7 ∷ replicate 23 (pos 0)) ++ (negsuc 7 ∷ replicate 23 (pos 0)))
unfolding trace_in blocks_at block_at list_line_at numbers_from signed_at below_at decimal_line_at decimal_at begins
two_blocks = refl

pub not_from_zero : trace_in (bytes "num=1\n" ++ block (bytes "1") (bytes "7")) ≡ malformed
unfolding trace_in blocks_at block_at list_line_at numbers_from signed_at below_at decimal_line_at decimal_at begins
not_from_zero = refl

-- ---- nothing stands behind the last line
pub line-behind : trace_in (bytes "num=1\n" ++ (block (bytes "0") (bytes "7") ++ bytes "\n")) ≡ malformed
unfolding trace_in blocks_at block_at list_line_at numbers_from signed_at below_at decimal_line_at decimal_at begins
line-behind = refl
