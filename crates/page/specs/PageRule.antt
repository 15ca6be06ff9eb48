-- The page rule: the reader accepts just the texts that Page.antt calls pages, each with its num and its words. Assumes nothing.
use Rattle.std.specs.Prelude.{◌≡◌, refl, Bool, true, false, List, ◌++◌, ℕ, ◌+◌, ◌*◌, ◌<◌, ◌≤◌, ltb, ℤ, take, drop}
use Rattle.std.proofs.Common.{ap, ap₂, sym, ◌∙◌, arith, length-append, take_all, length-take-le}
use borrow.Author.Tests.{lt-ltb, le-ltb, ltb-true, ltb-false}
use Rattle.std.proofs.Math.ListN.{length}
use Rattle.text.specs.Text.{bytes, decimal}
use Rattle.text.specs.Laws.Text.{decimal-fits}
use Rattle.text.specs.Laws.Lines.{decimal-rule, step, taken}
use Rattle.page.specs.Page.{Fit, Page, format_line, num_line, count_line, word_lines, page_text}
use Rattle.page.specs.Counts.{page_counts}
use Rattle.page.specs.Answer.{Reading, page, malformed, number_in, words_in, counts_in, read_of, cells_of}
use Rattle.page.specs.Reader.{format_at, words_at, count_at, num_at, reading_of}
use Rattle.page.specs.Laws.Reader.{format_rule}
use Rattle.page.specs.Laws.Lines.{words_back, words_only, lines-length, differ}

-- ---- each num and each list of words within the bounds have a page
pub page_of_lem : (num : ℕ) (words : List ℕ) → 1 ≤ num → num ≤ 65535 → length words ≤ 64 → Fit words → Page (page_text num words) num words
page_of_lem num words a b c f = record { num_least = a; num_most = b; count_most = c; words_fit = f; text_is = refl }

-- ---- from a page to its reading
pub accepted : (text : List ℕ) (num : ℕ) (words : List ℕ) → Page text num words → reading_of text ≡ page num words
unfolding reading_of num_at count_at page_text num_line count_line
accepted text num words p =
    ap reading_of p.text_is
    ∙ step malformed format_at _ _ format_rule 0 refl (num_line num ++ (count_line (length words) ++ word_lines words)) (λ x t. num_at t)
    ∙ step malformed _ _ _ (decimal-rule (bytes "num=") 1 65535) num (p.num_least, p.num_most) (count_line (length words) ++ word_lines words) count_at
    ∙ step malformed _ _ _ (decimal-rule (bytes "count=") 0 64) (length words) (omega arith, p.count_most) (word_lines words) (words_at num)
    ∙ words_back num words p.words_fit

-- ---- from a reading to its page
pub only_pages : (text : List ℕ) (num : ℕ) (words : List ℕ) → reading_of text ≡ page num words → Page text num words
unfolding reading_of num_at count_at page_text num_line count_line
only_pages text num words e =
    let a = taken malformed format_at _ _ format_rule text (λ x t. num_at t) (page num words) differ e in
    let b = taken malformed _ _ _ (decimal-rule (bytes "num=") 1 65535) a.1 count_at (page num words) differ a.4 in
    let c = taken malformed _ _ _ (decimal-rule (bytes "count=") 0 64) b.1 (words_at b.0) (page num words) differ b.4 in
    let d = words_only b.0 c.0 c.1 num words c.4 in
    record {
      num_least = omega (arith, b.2.0, d.0);
      num_most = omega (arith, b.2.1, d.0);
      count_most = omega (arith, c.2.1, d.1);
      words_fit = d.2;
      text_is =
          a.3
          ∙ ap (λ (l : List ℕ). format_line ++ l)
          (b.3 ∙ ap₂ (λ (x : ℕ) (l : List ℕ). num_line x ++ l) d.0
          (c.3 ∙ ap₂ (λ (n : ℕ) (l : List ℕ). count_line n ++ l) d.1 d.3));
    }

-- ---- what a text is
-- the text is the page of num and the words; or it is none, for any num and words
abbrev pub Reads : List ℕ → Reading → Type 0
Reads text (page num words) = Page text num words
Reads text malformed = (num : ℕ) (words : List ℕ) → Page text num words → ⊥

-- the reader is right about every text
pub reads : (text : List ℕ) → Reads text (reading_of text)
reads text = go (reading_of text) refl
  where
    go : (R : Reading) → reading_of text ≡ R → Reads text R
    go (page num words) e = only_pages text num words e
    go malformed e = λ num words p. differ (sym e ∙ accepted text num words p)

-- and no text is two things: it fixes its num and its words, or that it has none
pub one_reading : (text : List ℕ) (R S : Reading) → Reads text R → Reads text S → R ≡ S
one_reading text R S r s = sym (same R r) ∙ same S s
  where
    same : (R : Reading) → Reads text R → reading_of text ≡ R
    same (page num words) r = accepted text num words r
    same malformed r = go (reading_of text) refl
      where
        go : (R : Reading) → reading_of text ≡ R → R ≡ malformed
        go (page num words) e = absurd (r num words (only_pages text num words e))
        go malformed e = refl

-- one text has at most one num and one list of words
pub one_page : (text : List ℕ) (num x : ℕ) (words ws : List ℕ) → Page text num words → Page text x ws → (num ≡ x) × (words ≡ ws)
one_page text num x words ws p q =
    let e = one_reading text (page num words) (page x ws) p q in
    (cc, cc)

-- and one num with one list of words has one text
pub one_text : (text other : List ℕ) (num : ℕ) (words : List ℕ) → Page text num words → Page other num words → text ≡ other
one_text text other num words p q = p.text_is ∙ sym q.text_is

-- ---- the longest page has 1,189 bytes
pub text-longest : (num : ℕ) (words : List ℕ) → num ≤ 65535 → length words ≤ 64 → length (page_text num words) ≤ 1189
unfolding page_text format_line num_line count_line
text-longest num words most few =
    let e : length (page_text num words) ≡ 18 + (5 + length (decimal num) + (7 + length (decimal (length words)) + length (word_lines words))) =
    simp length-append (omega arith) in
    omega (
      arith,
      e,
      lines-length words,
      decimal-fits 4 num (omega arith),
      decimal-fits 1 (length words) (omega arith),
    )

pub longest : (text : List ℕ) (num : ℕ) (words : List ℕ) → Page text num words → length text ≤ 1189
longest text num words p = omega (arith, ap length p.text_is, text-longest num words p.num_most p.count_most)

-- so a text of 1,190 bytes or more is no page, and its first 1,190 bytes tell as much
too_long : (text : List ℕ) → 1190 ≤ length text → reading_of text ≡ malformed
too_long text h = one_reading text (reading_of text) malformed (reads text) (λ num words p. omega (arith, longest text num words p))

pub start_tells : (text : List ℕ) → reading_of (take 1190 text) ≡ reading_of text
start_tells text = go (ltb (length text) 1190) refl
  where
    go : (b : Bool) → ltb (length text) 1190 ≡ b → reading_of (take 1190 text) ≡ reading_of text
    go true e = ap reading_of (take_all 1190 text (omega (arith, ltb-true (length text) 1190 e)))
    go false e =
        let h = ltb-false (length text) 1190 e in
        too_long (take 1190 text) (omega (arith, length-take-le 1190 text h)) ∙ sym (too_long text h)

-- ---- what `read` answers and leaves in a buffer that held `old`
module _ (text : List ℕ) (old : List ℤ) where
  -- 9 for a text that is no page
  pub on_no_page : ((num : ℕ) (words : List ℕ) → Page text num words → ⊥)
      → (read_of (reading_of text) (length old) ≡ record { number = 9; count = 0 }) × (cells_of (reading_of text) old ≡ old)
  unfolding read_of cells_of number_in words_in counts_in
  on_no_page h = rw (one_reading text (reading_of text) malformed (reads text) h) (refl, refl)

  module _ (num : ℕ) (words : List ℕ) (p : Page text num words) where
    -- then 8 for a buffer that is too short
    pub on_short_buffer : length old < 24 * length words
        → (read_of (reading_of text) (length old) ≡ record { number = 8; count = 0 }) × (cells_of (reading_of text) old ≡ old)
    unfolding read_of cells_of number_in words_in counts_in
    on_short_buffer h = rw (accepted text num words p, lt-ltb (length old) (24 * length words) h) (refl, refl)

    -- any other page gives its count of blocks and its counts, and the cells behind them stay
    pub on_page : 24 * length words ≤ length old
        → (read_of (reading_of text) (length old) ≡ record { number = 0; count = length words })
        × (cells_of (reading_of text) old ≡ page_counts num words ++ drop (24 * length words) old)
    unfolding read_of cells_of number_in words_in counts_in
    on_page h = rw (accepted text num words p, le-ltb (length old) (24 * length words) h) (refl, refl)

-- 1,536 cells are room for every page
pub always_room : (text : List ℕ) (cells : ℕ) → 1536 ≤ cells → ((read_of (reading_of text) cells).number ≡ 0 → ⊥)
    → (reading_of text ≡ malformed) × ((read_of (reading_of text) cells).number ≡ 9)
unfolding read_of number_in words_in
always_room text cells h = go (reading_of text) refl
  where
    go : (R : Reading) → reading_of text ≡ R → ((read_of R cells).number ≡ 0 → ⊥) → (R ≡ malformed) × ((read_of R cells).number ≡ 9)
    go (page num words) e q =
        let p = only_pages text num words e in
        absurd (q (rw (le-ltb cells (24 * length words) (omega (arith, p.count_most)))))
    go malformed e q = (refl, refl)
