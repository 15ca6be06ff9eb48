-- Blocks in a row, and what is printed of the answer that `read` gives. Assumes nothing.
use mathlib.Core.Path.{◌≡◌, refl, ap, sym, ◌∙◌}
use mathlib.Core.List.{List, ◌++◌}
use Prim.Native.Nat.{ℕ, zero, suc, ◌+◌, ◌*◌, ◌≤◌}
use native.Mathlib.Omega.{arith}
use native.Mathlib.Numerals.{add-one}
use borrow.Author.Tests.{eq-eqb, ne_eqb}
use lib.IntN.{ℤ}
use lib.ListN.{length, take, drop, length-drop}
use lib.Seq.{drop-drop, take-append-le, drop-append-le}
use Rattle.text.specs.Text.{refused_text}
use Rattle.page.specs.Answer.{PageRead, number_in, words_in, counts_in, read_of, cells_of}
use Rattle.page.specs.Reader.{reading_of}
use Rattle.page.specs.Laws.Answer.{counts-length, few_words, whole_read, whole_cells}
use Rattle.shown.specs.Shown.{block_text, block_texts, printed}

-- ---- blocks in a row
-- what is left to write at block i: that block, and what is left at i + 1
pub texts_next : (counts : List ℤ) (i n : ℕ)
    → block_texts i (suc n) (drop (24 * i) counts)
    ≡ block_text i (take 24 (drop (24 * i) counts)) ++ block_texts (i + 1) n (drop (24 * (i + 1)) counts)
unfolding block_texts
texts_next counts i n =
    let e : 24 * i + 24 ≡ 24 * (i + 1) = omega arith in
    rw (drop-drop 24 (24 * i) counts, e, ← add-one i)

-- what stands behind the counts of n blocks is not read
pub texts_front : (i n : ℕ) (counts rest : List ℤ) → length counts ≡ 24 * n → block_texts i n (counts ++ rest) ≡ block_texts i n counts
unfolding block_texts
texts_front i zero counts rest h = refl
texts_front i (suc n) counts rest h =
    let l : 24 ≤ length counts = omega arith in
    let m : length (drop 24 counts) ≡ 24 * n = rw length-drop (omega arith) in
    rw (take-append-le 24 counts rest l, drop-append-le 24 counts rest l, texts_front (suc i) n (drop 24 counts) rest m)

-- ---- what `unpage` prints, where `read` had room for every page
module _ (text : List ℕ) (r : PageRead) (cells : ℕ) (e : r ≡ read_of (reading_of text) cells) (room : 1536 ≤ cells) where
  number : r.number ≡ number_in (reading_of text)
  number = ap (λ (a : PageRead). a.number) (e ∙ whole_read text cells room)

  count : r.count ≡ length (words_in (reading_of text))
  count = ap (λ (a : PageRead). a.count) (e ∙ whole_read text cells room)

  pub few : r.count ≤ 64
  few = omega (arith, count, few_words text)

  -- a refusal
  pub prints_refused : (r.number ≡ 0 → ⊥) → refused_text r.number ≡ printed (reading_of text)
  unfolding printed
  prints_refused n = rw (ne_eqb (number_in (reading_of text)) 0 (λ z. n (number ∙ z))) (ap refused_text number)

-- the blocks of a page, whose counts are in the buffer
pub prints_blocks : (text : List ℕ) (r : PageRead) (old cells : List ℤ) → r ≡ read_of (reading_of text) (length old)
    → cells ≡ cells_of (reading_of text) old → 1536 ≤ length old → r.number ≡ 0
    → block_texts 0 r.count cells ≡ printed (reading_of text)
unfolding printed
prints_blocks text r old cells e s room z =
    let R = reading_of text in
    rw (eq-eqb (number_in R) 0 (sym (number text r (length old) e room) ∙ z), count text r (length old) e room, s, whole_cells text old room)
    (texts_front 0 (length (words_in R)) (counts_in R) (drop (length (counts_in R)) old) (counts-length R))
