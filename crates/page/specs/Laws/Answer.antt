-- What the answers of `parse` and `read` tell of a text. Assumes nothing.
use Rattle.std.specs.Prelude.{◌≡◌, refl, List, ◌++◌, ℕ, ◌*◌, ◌≤◌, ℤ, length, take, drop, Ok, Err}
use Rattle.std.proofs.Common.{ap, sym, ◌∙◌, arith, le-ltb}
use Rattle.std.proofs.Math.Seq.{take-append_seam}
use Rattle.refusal.specs.declared.Refusal.{Refusal}
use Rattle.refusal.specs.Refusal.{number_of}
use Rattle.refusal.specs.Laws.{never_0}
use Rattle.page.specs.declared.content.Page.{Page}
use Rattle.page.specs.Answer.{Parsed, parsed_by, Reading, page, malformed, number_in, words_in, counts_in, parsed_of, read_of, cells_of}
use Rattle.page.specs.Laws.Count.{page-length}
use Rattle.page.specs.Reader.{reading_of}
use Rattle.page.specs.PageRule.{only_pages}

-- ---- `parse`
-- a number other than 0 is 9, for no page
pub refused-number : (R : Reading) (p : Parsed) → p ≡ parsed_of R → (p.number ≡ 0 → ⊥) → (R ≡ malformed) × (p.number ≡ 9)
unfolding parsed_of
refused-number (page num words) p e h = absurd (h (ap (λ (q : Parsed). q.number) e))
refused-number malformed p e h = (refl, ap (λ (q : Parsed). q.number) e)

-- number 0: a page, its num, its count and its words
pub record Accepted (text : List ℕ) (p : Parsed) : Type 0 where
  pub words : List ℕ
  pub reading : reading_of text ≡ page p.num words
  pub count : p.count ≡ length words
  pub front : take p.count p.words ≡ words
  pub num_most : p.num ≤ 65535
  pub count_most : p.count ≤ 64

pub some-page : (text : List ℕ) (p : Parsed) → p ≡ parsed_of (reading_of text) → p.number ≡ 0 → Accepted text p
unfolding parsed_of
some-page text p e h = go (reading_of text) refl e
  where
    go : (R : Reading) → reading_of text ≡ R → p ≡ parsed_of R → Accepted text p
    go (page num words) r e =
        let n : p.num ≡ num = ap (λ (q : Parsed). q.num) e in
        let k : p.count ≡ length words = ap (λ (q : Parsed). q.count) e in
        let g = only_pages text num words r in
        record {
          words = words;
          reading = r ∙ ap (λ (m : ℕ). page m words) (sym n);
          count = k;
          front = rw (k, ap (λ (q : Parsed). q.words) e) (take-append_seam words _);
          num_most = omega (arith, g.num_most);
          count_most = omega (arith, g.count_most);
        }
    go malformed r e = absurd (omega (arith, ap (λ (q : Parsed). q.number) e))

-- the same of the answer itself: a reason is that of no page, and a page is the one that the text is
pub refused-reason : (R : Reading) (r : Refusal) → parsed_by (Err r) ≡ parsed_of R → (R ≡ malformed) × (number_of r ≡ 9)
refused-reason R r e = refused-number R (parsed_by (Err r)) e (never_0 r)

pub read-page : (text : List ℕ) (p : Page) → parsed_by (Ok p) ≡ parsed_of (reading_of text) → Accepted text (parsed_by (Ok p))
read-page text p e = some-page text (parsed_by (Ok p)) e refl

-- either way: the count and the words are the reading's
pub parsed_words : (R : Reading) (p : Parsed) → p ≡ parsed_of R → (p.count ≡ length (words_in R)) × (take p.count p.words ≡ words_in R)
unfolding parsed_of words_in
parsed_words (page num words) p e =
    let k : p.count ≡ length words = ap (λ (q : Parsed). q.count) e in (k, rw (k, ap (λ (q : Parsed). q.words) e) (take-append_seam words _))
parsed_words malformed p e =
    let k : p.count ≡ 0 = ap (λ (q : Parsed). q.count) e in (k, rw k)

-- ---- a reading's counts: 24 a word, and at most 64 words
pub counts-length : (R : Reading) → length (counts_in R) ≡ 24 * length (words_in R)
unfolding words_in counts_in
counts-length (page num words) = page-length num words
counts-length malformed = refl

pub few_words : (text : List ℕ) → length (words_in (reading_of text)) ≤ 64
unfolding words_in
few_words text = go (reading_of text) refl
  where
    go : (R : Reading) → reading_of text ≡ R → length (words_in R) ≤ 64
    go (page num words) e = (only_pages text num words e).count_most
    go malformed e = omega arith

-- ---- `read` into a buffer with room for every page: the reading's own number and count, and its counts at the buffer's front
pub whole_read : (text : List ℕ) (cells : ℕ) → 1536 ≤ cells
    → read_of (reading_of text) cells ≡ record { number = number_in (reading_of text); count = length (words_in (reading_of text)) }
unfolding read_of number_in words_in
whole_read text cells room = go (reading_of text) (few_words text)
  where
    go : (R : Reading) → length (words_in R) ≤ 64 → read_of R cells ≡ record { number = number_in R; count = length (words_in R) }
    go (page num words) h = rw (le-ltb cells (24 * length words) (omega arith))
    go malformed h = refl

pub whole_cells : (text : List ℕ) (old : List ℤ) → 1536 ≤ length old
    → cells_of (reading_of text) old ≡ counts_in (reading_of text) ++ drop (length (counts_in (reading_of text))) old
unfolding cells_of number_in words_in counts_in
whole_cells text old room = go (reading_of text) (few_words text)
  where
    go : (R : Reading) → length (words_in R) ≤ 64 → cells_of R old ≡ counts_in R ++ drop (length (counts_in R)) old
    go (page num words) h = rw (le-ltb (length old) (24 * length words) (omega arith), page-length num words)
    go malformed h = refl
