-- Rows in a row, and what is printed of the answer that `summarise` gives. Assumes nothing.
use mathlib.Core.Path.{◌≡◌, refl, ap, sym, ◌∙◌}
use mathlib.Core.List.{List, [], ◌++◌, append_assoc}
use Prim.Native.Nat.{ℕ, zero, suc, ◌+◌, ◌*◌, ◌≤◌}
use native.Mathlib.Omega.{arith}
use native.Mathlib.Numerals.{add-one}
use borrow.Author.Tests.{eq-eqb, ne_eqb, le-ltb}
use lib.IntN.{ℤ, pos}
use lib.ListN.{length, get_or, drop, length-drop, get_or-append}
use lib.Seq.{get_or-drop, drop-drop, drop-append-le}
use Rattle.text.specs.Text.{bytes, line, decimal, signed, refused_text}
use Rattle.page.specs.Answer.{Reading, page, malformed, number_in, words_in}
use Rattle.page.specs.Reader.{reading_of}
use Rattle.page.specs.Laws.Answer.{few_words}
use Rattle.summary.specs.Summary.{summary_of, cells_for}
use Rattle.summary.specs.Answer.{Summed, summarise_number, summarised, summarised_rows}
use Rattle.summary.specs.Laws.Rows.{summary-length}
use Rattle.summary.specs.Laws.Answers.{sum-good}
use Rattle.sized.specs.Sized.{row_text, block_text, block_texts, summary_text, printed}

-- ---- rows
-- the row that stands at `from`
row_at : (cells : List ℤ) (from : ℕ)
    → line (bytes "sum=") (signed (get_or cells from (pos 0)))
    ++ (line (bytes "largest=") (signed (get_or cells (from + 1) (pos 0)))
    ++ (line (bytes "smallest=") (signed (get_or cells (from + 2) (pos 0))) ++ line (bytes "odd=") (signed (get_or cells (from + 3) (pos 0)))))
    ≡ row_text (drop from cells)
unfolding row_text
row_at cells from =
    let first : get_or (drop from cells) 0 (pos 0) ≡ get_or cells from (pos 0) =
    get_or-drop from cells 0 (pos 0) ∙ ap (λ (k : ℕ). get_or cells k (pos 0)) (omega arith) in
    rw (first, get_or-drop from cells 1 (pos 0), get_or-drop from cells 2 (pos 0), get_or-drop from cells 3 (pos 0))

-- its four lines, one behind another
pub row_lines : (cells : List ℤ) (from : ℕ) {l0 l1 l2 l3 l4 : List ℕ} → l0 ≡ []
    → l1 ≡ l0 ++ line (bytes "sum=") (signed (get_or cells from (pos 0)))
    → l2 ≡ l1 ++ line (bytes "largest=") (signed (get_or cells (from + 1) (pos 0)))
    → l3 ≡ l2 ++ line (bytes "smallest=") (signed (get_or cells (from + 2) (pos 0)))
    → l4 ≡ l3 ++ line (bytes "odd=") (signed (get_or cells (from + 3) (pos 0)))
    → l4 ≡ row_text (drop from cells)
row_lines cells from e0 e1 e2 e3 e4 = rw (e4, e3, e2, e1, e0, ← row_at cells from) (simp append_assoc)

-- the line of the count and the page's row, and behind them the blocks
pub summary_lines : (n : ℕ) (cells : List ℤ) {all row : List ℕ} → all ≡ ([] ++ line (bytes "blocks=") (decimal n)) ++ row → row ≡ row_text cells
    → all ++ block_texts 0 n (drop 4 cells) ≡ summary_text n cells
unfolding summary_text
summary_lines n cells e is =
    let first = line (bytes "blocks=") (decimal n) in
    let rest = block_texts 0 n (drop 4 cells) in
    ap (λ (t : List ℕ). t ++ rest) (e ∙ ap (λ (r : List ℕ). first ++ r) is) ∙ append_assoc first (row_text cells) rest

-- what is left to write at block i: that block, and what is left at i + 1
pub texts_next : (cells : List ℤ) (i n : ℕ)
    → block_texts i (suc n) (drop (4 * (i + 1)) cells)
    ≡ block_text i (drop (4 * (i + 1)) cells) ++ block_texts (i + 1) n (drop (4 * (i + 1 + 1)) cells)
unfolding block_texts
texts_next cells i n =
    let e : 4 * (i + 1) + 4 ≡ 4 * (i + 1 + 1) = omega arith in
    rw (drop-drop 4 (4 * (i + 1)) cells, e, ← add-one i)

-- what stands behind the rows is not read
row_front : (cells rest : List ℤ) → 4 ≤ length cells → row_text (cells ++ rest) ≡ row_text cells
unfolding row_text
row_front cells rest h =
    rw (
      get_or-append cells rest (pos 0) 0 (omega arith),
      get_or-append cells rest (pos 0) 1 (omega arith),
      get_or-append cells rest (pos 0) 2 (omega arith),
      get_or-append cells rest (pos 0) 3 (omega arith),
    )

texts_front : (i n : ℕ) (cells rest : List ℤ) → length cells ≡ 4 * n → block_texts i n (cells ++ rest) ≡ block_texts i n cells
unfolding block_texts block_text
texts_front i zero cells rest h = refl
texts_front i (suc n) cells rest h =
    let l : 4 ≤ length cells = omega arith in
    let m : length (drop 4 cells) ≡ 4 * n = rw length-drop (omega arith) in
    rw (row_front cells rest l, drop-append-le 4 cells rest l, texts_front (suc i) n (drop 4 cells) rest m)

summary_front : (n : ℕ) (cells rest : List ℤ) → length cells ≡ 4 * (n + 1) → summary_text n (cells ++ rest) ≡ summary_text n cells
unfolding summary_text
summary_front n cells rest h =
    let l : 4 ≤ length cells = omega arith in
    let m : length (drop 4 cells) ≡ 4 * n = rw length-drop (omega arith) in
    rw (row_front cells rest l, drop-append-le 4 cells rest l, texts_front 0 n (drop 4 cells) rest m)

-- ---- what `sizes` prints, where `summarise` had room for every page
whole : (text : List ℕ) (cells : ℕ) → 260 ≤ cells
    → summarised (reading_of text) cells ≡ record { number = number_in (reading_of text); count = length (words_in (reading_of text)) }
unfolding summarise_number summarised number_in words_in
whole text cells room = go (reading_of text) (few_words text)
  where
    go : (R : Reading) → length (words_in R) ≤ 64 → summarised R cells ≡ record { number = number_in R; count = length (words_in R) }
    go (page num words) h = rw (le-ltb cells (cells_for (length words)) (omega arith))
    go malformed h = refl

whole_rows : (text : List ℕ) (old : List ℤ) → 260 ≤ length old → number_in (reading_of text) ≡ 0
    → summarised_rows (reading_of text) old
    ≡ summary_of (words_in (reading_of text)) ++ drop (cells_for (length (words_in (reading_of text)))) old
unfolding number_in words_in
whole_rows text old room = go (reading_of text) (few_words text)
  where
    go : (R : Reading) → length (words_in R) ≤ 64 → number_in R ≡ 0
        → summarised_rows R old ≡ summary_of (words_in R) ++ drop (cells_for (length (words_in R))) old
    go (page num words) h z = (sum-good num words old (omega arith)).1
    go malformed h z = absurd (omega (arith, z))

module _ (text : List ℕ) (r : Summed) (cells : ℕ) (e : r ≡ summarised (reading_of text) cells) (room : 260 ≤ cells) where
  number : r.number ≡ number_in (reading_of text)
  number = ap (λ (a : Summed). a.number) (e ∙ whole text cells room)

  count : r.count ≡ length (words_in (reading_of text))
  count = ap (λ (a : Summed). a.count) (e ∙ whole text cells room)

  pub few : r.count ≤ 64
  few = omega (arith, count, few_words text)

  -- a refusal
  pub prints_refused : (r.number ≡ 0 → ⊥) → refused_text r.number ≡ printed (reading_of text)
  unfolding printed
  prints_refused n = rw (ne_eqb (number_in (reading_of text)) 0 (λ z. n (number ∙ z))) (ap refused_text number)

-- the summary of a page, which is in the buffer
pub prints_summary : (text : List ℕ) (r : Summed) (old cells : List ℤ) → r ≡ summarised (reading_of text) (length old)
    → cells ≡ summarised_rows (reading_of text) old → 260 ≤ length old → r.number ≡ 0
    → summary_text r.count cells ≡ printed (reading_of text)
unfolding printed
prints_summary text r old cells e s room z =
    let R = reading_of text in
    let n : number_in R ≡ 0 = sym (number text r (length old) e room) ∙ z in
    rw (eq-eqb (number_in R) 0 n, count text r (length old) e room, s, whole_rows text old room n)
    (summary_front (length (words_in R)) (summary_of (words_in R)) (drop (cells_for (length (words_in R))) old) (summary-length (words_in R)))
