-- Blocks of counts stored one behind another, and word lines likewise. Assumes nothing.
use mathlib.Core.Path.{◌≡◌, sym, ◌∙◌}
use mathlib.Core.List.{List, [], append_assoc}
use Prim.Native.Nat.{ℕ, ◌+◌, ◌*◌, ◌<◌, ◌≤◌}
use native.Mathlib.Omega.{arith}
use lib.IntN.{ℤ}
use lib.ListN.{length, get_or, take, drop, drop_of_length-le}
use borrow.Rule.Slice.PartMut.{put_mid}
use lib.Seq.{sets, sets-eq, drop-drop}
use Rattle.laws.specs.Laws.Lists.{drop-next, sets-append}
use Rattle.page.specs.Page.{word_line, word_lines}
use Rattle.page.specs.Counts.{block_counts, page_counts}
use Rattle.page.specs.Laws.Count.{block-length}
use Rattle.page.specs.Laws.Reader.{word-length}

-- what is left to store at block i: that block, and what is left at i + 1
pub blocks-next : (num : ℕ) (words : List ℕ) (i : ℕ) → i < length words → (l : List ℤ)
    → sets l (24 * i) (page_counts num (drop i words))
    ≡ sets (sets l (24 * i) (block_counts num (get_or words i 0))) (24 * (i + 1)) (page_counts num (drop (i + 1) words))
unfolding page_counts
blocks-next num words i inside l =
    let e : 24 * (i + 1) ≡ 24 * i + length (block_counts num (get_or words i 0)) = omega (arith, block-length num (get_or words i 0)) in
    rw (drop-next ℕ 0 words i inside, e)
    (sets-append ℤ (block_counts num (get_or words i 0)) (page_counts num (drop (i + 1) words)) l (24 * i))

-- nothing is left behind the last block
pub blocks_end : (num : ℕ) (words : List ℕ) (i : ℕ) → length words ≤ i → page_counts num (drop i words) ≡ []
unfolding page_counts
blocks_end num words i h = rw (drop_of_length-le words h)

-- ---- the same of the lines of some words
pub lines_next : (words : List ℕ) (i : ℕ) → i < length words → (l : List ℕ) (at : ℕ)
    → sets l at (word_lines (drop i words))
    ≡ sets (sets l at (word_line (get_or words i 0))) (at + 18) (word_lines (drop (i + 1) words))
unfolding word_lines
lines_next words i inside l at =
    rw (drop-next ℕ 0 words i inside, ← word-length (get_or words i 0))
    (sets-append ℕ (word_line (get_or words i 0)) (word_lines (drop (i + 1) words)) l at)

pub lines_end : (words : List ℕ) (i : ℕ) → length words ≤ i → word_lines (drop i words) ≡ []
unfolding word_lines
lines_end words i h = rw (drop_of_length-le words h)

-- ---- a part of a list written over by another list as long: what storing its elements one by one leaves
pub put_part : (A : Type 0) (at k : ℕ) (vs l : List A) → length vs ≡ k → at + k ≤ length l → put_mid at k l vs ≡ sets l at vs
put_part A at k vs l e h =
    rw (drop-drop k at l, ← e) (sym (sets-eq vs l at (omega arith) ∙ append_assoc (take at l) vs (drop (at + length vs) l)))
