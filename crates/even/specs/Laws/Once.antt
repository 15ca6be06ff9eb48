-- No second answer fits: what a contract says of an answer of this crate leaves one. Of samples the full coder's theorems say it, over
-- `even_parities` (encoder/specs/Laws/Once). Assumes nothing.
use Rattle.std.specs.Prelude.{◌≡◌, refl, List, ℕ, eqb, ℤ, Result}
use Rattle.std.proofs.Common.{ap, sym, ◌∙◌}
use Rattle.refusal.specs.declared.Refusal.{Refusal}
use Rattle.refusal.specs.Refusal.{number_in}
use Rattle.refusal.proofs.Once.{Tells, tells, tells-either, tells-record, once, checked_once}
use Rattle.word.specs.Word.{fields_of}
use Rattle.tetra.specs.Encode.{encoded_by}
use Rattle.tetra.specs.Laws.Answer.{encoded_apart}
use Rattle.page.specs.Answer.{PageRead, Reading, words_in, read_by, read_of}
use Rattle.page.specs.Laws.Once.{count-tells}
use Rattle.even.specs.Even.{word_number, Decoded, decoded_by, even_decoded, even_encoded, any_odd, even_read}

-- ---- check
word-tells : (w : ℕ) → Tells (word_number w)
unfolding word_number
word-tells w = tells-either (eqb (fields_of w).p 0) _ _ (tells 0 refl) (tells 13 refl)

pub one_check : (w : ℕ) (a b : Result (Unit {0}) Refusal) → number_in a ≡ word_number w → number_in b ≡ word_number w → a ≡ b
one_check w = checked_once (word_number w) (word-tells w)

-- ---- decode
point-tells : (w : ℕ) → Tells (even_decoded w).number
unfolding even_decoded
point-tells w = tells-record (λ (r : Decoded). r.number) (eqb (word_number w) 0) _ _ (tells 0 refl) (word-tells w)

pub one_point : (w : ℕ) (a b : Result (List ℤ) Refusal) → decoded_by a ≡ even_decoded w → decoded_by b ≡ even_decoded w → a ≡ b
one_point w =
    once decoded_by (λ (r : Decoded). r.number)
    (record { accepted = λ v. refl; refused = λ r. refl; same = λ v w e. ap (λ (r : Decoded). r.point) e }) (even_decoded w) (point-tells w)

-- ---- encode_point: the record of its answer keeps the section of a reason too
pub one_word : (y : List ℤ) (a b : Result ℕ Refusal) → encoded_by a ≡ even_encoded y → encoded_by b ≡ even_encoded y → a ≡ b
one_word y a b p q = encoded_apart a b (p ∙ sym q)

-- ---- read_page
count_of_even-tells : (R : Reading) (cells : ℕ) → Tells (even_read R cells).number
unfolding even_read
count_of_even-tells R cells =
    tells-record (λ (r : PageRead). r.number) (any_odd (words_in R)) _ _ (tells 13 refl) (count-tells R cells)

pub one_count : (R : Reading) (cells : ℕ) (a b : Result ℕ Refusal) → read_by a ≡ even_read R cells → read_by b ≡ even_read R cells → a ≡ b
one_count R cells =
    once read_by (λ (r : PageRead). r.number)
    (record { accepted = λ v. refl; refused = λ r. refl; same = λ v w e. ap (λ (r : PageRead). r.count) e }) (even_read R cells)
    (count_of_even-tells R cells)
