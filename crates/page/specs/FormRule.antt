-- The rule of `form`: what it answers in each case, how long its text can be, and that it is the inverse of `parse`, both ways.
-- Assumes nothing.
use Rattle.std.specs.Prelude.{◌≡◌, refl, Bool, true, false, cond, List, ◌++◌, map, ℕ, ◌%◌, ◌^◌, ◌<◌, ◌≤◌, ltb, length, take, drop}
use Rattle.std.proofs.Common.{ap, sym, ◌∙◌, arith}
use borrow.Author.Tests.{lt-ltb, le-ltb, ltb-false}
use Rattle.std.proofs.lemmas.List.{length-map}
use Rattle.std.proofs.Math.Seq.{take-append_seam}
use Rattle.page.specs.Page.{Fit, page_text}
use Rattle.page.specs.Answer.{Parsed, page, parsed_of}
use Rattle.page.specs.Form.{Formed, is_num, form_text, form_number, formed_of, form_in}
use Rattle.page.specs.Reader.{reading_of}
use Rattle.page.specs.PageRule.{page_of_lem, accepted, only_pages, text-longest}
use Rattle.page.specs.Laws.Answer.{some-page}
use Rattle.page.specs.Laws.Form.{is_num_lem, num_is, num_not, few_taken, text_low, low_fit, low_same}

-- ---- what `form` answers and leaves in a buffer that held `old`
module _ (num count : ℕ) (words old : List ℕ) where
  -- a refusal: its number and length 0, and the buffer as it was
  abbrev pub Refuses : ℕ → Type 0
  Refuses n = (formed_of num count words (length old) ≡ record { number = n; length = 0 }) × (form_in num count words old ≡ old)

  -- 3 for num 0 or above 65535
  pub on_bad_num : (1 ≤ num → num ≤ 65535 → ⊥) → Refuses 3
  unfolding formed_of form_in form_number
  on_bad_num h = rw (num_not num h) (refl, refl)

  module _ (least : 1 ≤ num) (most : num ≤ 65535) where
    -- then 9 for more than 64 words
    pub on_many_words : 64 < count → Refuses 9
    unfolding formed_of form_in form_number
    on_many_words h = rw (num_is num least most, lt-ltb 64 count h) (refl, refl)

    module _ (few : count ≤ 64) where
      -- then 8 for a buffer that is shorter than the text
      pub on_short_text : length old < length (page_text num (take count words)) → Refuses 8
      unfolding formed_of form_in form_number form_text
      on_short_text h =
          rw (num_is num least most, le-ltb 64 count few, lt-ltb (length old) (length (page_text num (take count words))) h) (refl, refl)

      -- otherwise 0 and the text's length; the text stands at the buffer's start, and the bytes behind it stay
      pub on_formed : length (page_text num (take count words)) ≤ length old
          → (formed_of num count words (length old) ≡ record { number = 0; length = length (page_text num (take count words)) })
          × (form_in num count words old ≡ page_text num (take count words) ++ drop (length (page_text num (take count words))) old)
      unfolding formed_of form_in form_number form_text
      on_formed h =
          rw (num_is num least most, le-ltb 64 count few, le-ltb (length old) (length (page_text num (take count words))) h) (refl, refl)

-- number 0 is for no other call
pub record Forms (num count : ℕ) (words : List ℕ) (room : ℕ) : Type 0 where
  pub least : 1 ≤ num
  pub most : num ≤ 65535
  pub few : count ≤ 64
  pub fits : length (page_text num (take count words)) ≤ room

pub only_formed : (num count : ℕ) (words : List ℕ) (room : ℕ) → (formed_of num count words room).number ≡ 0 → Forms num count words room
unfolding formed_of form_number form_text
only_formed num count words room = go (is_num num) (ltb 64 count) (ltb room (length (page_text num (take count words)))) refl refl refl
  where
    go : (a b c : Bool) → is_num num ≡ a → ltb 64 count ≡ b → ltb room (length (page_text num (take count words))) ≡ c
        → ◌≡◌ {A = ℕ} (cond a (cond b 9 (cond c 8 0)) 3) 0 → Forms num count words room
    go true false false ha hb hc e =
        let n = is_num_lem num ha in
        record {
          least = n.0;
          most = n.1;
          few = ltb-false 64 count hb;
          fits = ltb-false room (length (page_text num (take count words))) hc;
        }
    go true false true ha hb hc e = absurd (omega arith)
    go true true c ha hb hc e = absurd (omega arith)
    go false b c ha hb hc e = absurd (omega arith)

-- ---- the longest text has 1,189 bytes, whatever the words
pub form-longest : (num count : ℕ) (words : List ℕ) → num ≤ 65535 → count ≤ 64 → length (page_text num (take count words)) ≤ 1189
form-longest num count words most few = text-longest num (take count words) most (few_taken count words few)

-- so 1,189 bytes are room for every page
pub always_formed : (num count : ℕ) (words old : List ℕ) → 1 ≤ num → num ≤ 65535 → count ≤ 64 → 1189 ≤ length old
    → (formed_of num count words (length old)).number ≡ 0
always_formed num count words old least most few room =
    ap (λ (r : Formed). r.number) (on_formed num count words old least most few (omega (arith, form-longest num count words most few))).0

-- ---- the inverse: what is formed is read back
module _ (num count : ℕ) (words : List ℕ) (least : 1 ≤ num) (most : num ≤ 65535) (few : count ≤ 64) where
  -- with the low 48 bits of each word
  pub form-parse : reading_of (page_text num (take count words)) ≡ page num (map (λ w. w % 2 ^ 48) (take count words))
  form-parse =
      let ws = map (λ (w : ℕ). w % 2 ^ 48) (take count words) in
      let n : length ws ≤ 64 = omega (arith, length-map (take count words) (λ (w : ℕ). w % 2 ^ 48), few_taken count words few) in
      ap reading_of (sym (text_low num (take count words)))
      ∙ accepted (page_text num ws) num ws (page_of_lem num ws least most n (low_fit (take count words)))

  -- that is with the same words, where each fits 48 bits
  pub form-parse_fit : Fit (take count words) → reading_of (page_text num (take count words)) ≡ page num (take count words)
  form-parse_fit f = form-parse ∙ ap (page num) (low_same (take count words) f)

-- and what was read is formed again: byte by byte the same text
pub parse-form : (text : List ℕ) (num : ℕ) (words : List ℕ) → reading_of text ≡ page num words → page_text num words ≡ text
parse-form text num words e = sym (only_pages text num words e).text_is

-- ---- the same of the calls
-- where `form` answers 0, `parse` accepts what it wrote, with the same num and the low 48 bits of the same words
pub form_then-parse : (num count : ℕ) (words old : List ℕ) → (formed_of num count words (length old)).number ≡ 0
    → reading_of (take (formed_of num count words (length old)).length (form_in num count words old))
    ≡ page num (map (λ w. w % 2 ^ 48) (take count words))
form_then-parse num count words old e =
    let f = only_formed num count words (length old) e in
    let r = on_formed num count words old f.least f.most f.few f.fits in
    let t = page_text num (take count words) in
    rw (r.0, r.1, take-append_seam t (drop (length t) old)) (form-parse num count words f.least f.most f.few)

pub form_then-parse_fit : (num count : ℕ) (words old : List ℕ) → (formed_of num count words (length old)).number ≡ 0 → Fit (take count words)
    → reading_of (take (formed_of num count words (length old)).length (form_in num count words old)) ≡ page num (take count words)
form_then-parse_fit num count words old e f = form_then-parse num count words old e ∙ ap (page num) (low_same (take count words) f)

-- where `parse` answers 0, `form` gives the text back from what it answered, into any buffer that has room for it
pub parse_then-form : (text old : List ℕ) (p : Parsed) → p ≡ parsed_of (reading_of text) → p.number ≡ 0 → length text ≤ length old
    → (formed_of p.num p.count p.words (length old) ≡ record { number = 0; length = length text })
    × (form_in p.num p.count p.words old ≡ text ++ drop (length text) old)
parse_then-form text old p e z room =
    let a = some-page text p e z in
    let g = only_pages text p.num a.words a.reading in
    let t : page_text p.num (take p.count p.words) ≡ text =
    ap (page_text p.num) a.front ∙ parse-form text p.num a.words a.reading in
    let h : length (page_text p.num (take p.count p.words)) ≤ length old = omega (arith, ap length t) in
    rw t at (on_formed p.num p.count p.words old g.num_least g.num_most a.count_most h)
