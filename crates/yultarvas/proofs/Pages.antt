-- What `page::parse` answers, as `yultarvas_parse_page` hands it on. Assumes nothing.
use mathlib.Core.Path.{◌≡◌, refl, ap}
use mathlib.Core.Bool.{cond}
use mathlib.Core.List.{List}
use Prim.Native.Nat.{ℕ, ◌≤◌}
use native.Mathlib.Omega.{arith}
use lib.Dec.{ltb}
use lib.ListN.{length, take}
use lib.Seq.{take-append_seam}
use Rattle.page.specs.Answer.{Parsed, Reading, page, malformed, number_in, num_in, words_in, parsed_of}
use Rattle.page.specs.Reader.{reading_of}
use Rattle.page.specs.PageRule.{only_pages}
use Rattle.yultarvas.specs.Calls.{words_number}

-- a number other than 0 is that of no page
pub no_page_lem : (R : Reading) (p : Parsed) (old : List ℕ) → p ≡ parsed_of R → (p.number ≡ 0 → ⊥) → p.number ≡ words_number R old
unfolding parsed_of number_in
no_page_lem (page num words) p old e h = absurd (h (ap (λ (q : Parsed). q.number) e))
no_page_lem malformed p old e h = ap (λ (q : Parsed). q.number) e

-- number 0: the page's num, count and words
pub record Holds (R : Reading) (p : Parsed) : Type 0 where
  pub num : p.num ≡ num_in R
  pub count : p.count ≡ length (words_in R)
  pub front : take p.count p.words ≡ words_in R
  pub number : (old : List ℕ) → cond (ltb (length old) p.count) 8 0 ≡ words_number R old
  pub few : p.count ≤ 64

pub some-page : (text : List ℕ) (p : Parsed) → p ≡ parsed_of (reading_of text) → p.number ≡ 0 → Holds (reading_of text) p
unfolding parsed_of number_in num_in words_in
some-page text p e h = go (reading_of text) refl e
  where
    go : (R : Reading) → reading_of text ≡ R → p ≡ parsed_of R → Holds R p
    go (page num words) r e =
        let k : p.count ≡ length words = ap (λ (q : Parsed). q.count) e in
        record {
          num = ap (λ (q : Parsed). q.num) e;
          count = k;
          front = rw (k, ap (λ (q : Parsed). q.words) e) (take-append_seam words _);
          number = λ old. rw k;
          few = omega (arith, (only_pages text num words r).count_most);
        }
    go malformed r e = absurd (omega (arith, ap (λ (q : Parsed). q.number) e))
