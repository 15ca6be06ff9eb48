-- No second answer fits: what a contract says of an answer of this crate leaves one. Assumes nothing.
use Rattle.std.specs.Prelude.{◌≡◌, refl, List, ℕ, ◌*◌, ◌≤◌, ltb, length, Result}
use Rattle.std.proofs.Common.{ap, ap₂, subst}
use Rattle.std.proofs.Math.Bridge.{le_prop}
use Rattle.refusal.specs.declared.Refusal.{Refusal}
use Rattle.refusal.proofs.Once.{Tells, tells, tells-either, tells-record, once}
use Rattle.page.specs.declared.content.Page.{Page}
use Rattle.page.specs.Answer.{Reading, page, malformed, words_in, number_in, Parsed, parsed_by, parsed_of, PageRead, read_by, read_of}
use Rattle.page.specs.Form.{Formed, is_num, form_text, form_number, formed_by, formed_of}

-- ---- parse
-- two pages of one num, one count and the same words are one: their ghost fields are proofs of orders, of which there is one each
abbrev WithProofs : Page → ℕ → ℕ → List ℕ → Type 0
WithProofs v n k ws = (g : (1 ≤ n) × (n ≤ 65535)) (f : k ≤ 64) → v ≡ record { num = n; count = k; words = ws; good_num = g; few = f }

own_proof : (v : Page) → WithProofs v v.num v.count v.words
own_proof v g f =
    ap₂ {C = Page} (λ (h : (1 ≤ v.num) × (v.num ≤ 65535)) (e : v.count ≤ 64). record { num = v.num; count = v.count; words = v.words; good_num = h; few = e })
    (ap₂ (λ (i : 1 ≤ v.num) (j : v.num ≤ 65535). (i, j)) (le_prop v.good_num.0 g.0) (le_prop v.good_num.1 g.1)) (le_prop v.few f)

same_page : (v w : Page) → v.num ≡ w.num → v.count ≡ w.count → v.words ≡ w.words → v ≡ w
same_page v w n k ws =
    subst (λ (x : ℕ). WithProofs v x w.count w.words) n
    (subst (λ (x : ℕ). WithProofs v v.num x w.words) k
    (subst (λ (x : List ℕ). WithProofs v v.num v.count x) ws (own_proof v))) w.good_num w.few

page-tells : (R : Reading) → Tells (parsed_of R).number
unfolding parsed_of
page-tells (page num words) = tells 0 refl
page-tells malformed = tells 9 refl

pub one_page : (R : Reading) (a b : Result Page Refusal) → parsed_by a ≡ parsed_of R → parsed_by b ≡ parsed_of R → a ≡ b
one_page R =
    once parsed_by (λ (r : Parsed). r.number)
    (record {
      accepted = λ v. refl;
      refused = λ r. refl;
      same = λ v w e. same_page v w (ap (λ (r : Parsed). r.num) e) (ap (λ (r : Parsed). r.count) e) (ap (λ (r : Parsed). r.words) e);
    }) (parsed_of R) (page-tells R)

-- ---- read
pub count-tells : (R : Reading) (cells : ℕ) → Tells (read_of R cells).number
unfolding read_of number_in
count-tells (page num words) cells =
    tells-record (λ (r : PageRead). r.number) (ltb cells (24 * length (words_in (page num words)))) _ _ (tells 8 refl) (tells 0 refl)
count-tells malformed cells = tells 9 refl

pub one_count : (R : Reading) (cells : ℕ) (a b : Result ℕ Refusal) → read_by a ≡ read_of R cells → read_by b ≡ read_of R cells → a ≡ b
one_count R cells =
    once read_by (λ (r : PageRead). r.number)
    (record { accepted = λ v. refl; refused = λ r. refl; same = λ v w e. ap (λ (r : PageRead). r.count) e }) (read_of R cells) (count-tells R cells)

-- ---- form
form-tells : (num count : ℕ) (words : List ℕ) (room : ℕ) → Tells (formed_of num count words room).number
unfolding form_number formed_of
form-tells num count words room =
    tells-either (is_num num) _ _
    (tells-either (ltb 64 count) _ _ (tells 9 refl)
    (tells-either (ltb room (length (form_text num count words))) _ _ (tells 8 refl) (tells 0 refl))) (tells 3 refl)

pub one_length : (num count : ℕ) (words : List ℕ) (room : ℕ) (a b : Result ℕ Refusal)
    → formed_by a ≡ formed_of num count words room → formed_by b ≡ formed_of num count words room → a ≡ b
one_length num count words room =
    once formed_by (λ (r : Formed). r.number)
    (record { accepted = λ v. refl; refused = λ r. refl; same = λ v w e. ap (λ (r : Formed). r.length) e }) (formed_of num count words room)
    (form-tells num count words room)
