-- No second answer fits: what a contract says of an answer of this crate leaves one. Assumes nothing.
use Rattle.std.specs.Prelude.{◌≡◌, refl, List, ℕ, ◌+◌, ltb, leb, ℤ, length, Result}
use Rattle.std.proofs.Common.{ap}
use Rattle.refusal.specs.declared.Refusal.{Refusal}
use Rattle.refusal.specs.Refusal.{number_in as number_told}
use Rattle.refusal.proofs.Once.{Tells, tells, tells-either, Recorded, once, checked_once}
use Rattle.page.specs.Answer.{Reading, page, malformed, number_in, words_in}
use Rattle.summary.specs.Summary.{cells_for}
use Rattle.summary.specs.Answer.{Summed, summed_by, page_first, summarise_number, summarised, agree, checked, add_number, added}

-- ---- the numbers: 9, 8 and 14, so each tells its reason
first-tells : (R : Reading) (k : ℕ) → Tells k → Tells (page_first R k)
unfolding number_in
first-tells (page num words) k t = t
first-tells malformed k t = tells 9 refl

sum-tells : (R : Reading) (cells : ℕ) → Tells (summarised R cells).number
unfolding summarise_number summarised
sum-tells R cells = first-tells R _ (tells-either (ltb cells (cells_for (length (words_in R)))) _ _ (tells 8 refl) (tells 0 refl))

check-tells : (R : Reading) (rows : List ℤ) → Tells (checked R rows)
unfolding checked
check-tells R rows =
    first-tells R _
    (tells-either (ltb (length rows) (cells_for (length (words_in R)))) _ _ (tells 8 refl)
    (tells-either (agree (words_in R) rows) _ _ (tells 0 refl) (tells 14 refl)))

add-tells : (R : Reading) (rows : List ℤ) → Tells (added R rows).number
unfolding add_number added
add-tells R rows =
    first-tells R _
    (tells-either (leb 64 (length (words_in R))) _ _ (tells 9 refl)
    (tells-either (ltb (length rows) (cells_for (length (words_in R) + 1))) _ _ (tells 8 refl)
    (tells-either (agree (words_in R) rows) _ _ (tells 0 refl) (tells 14 refl))))

-- ---- summarise, check, add
recorded : Recorded summed_by (λ (r : Summed). r.number)
recorded = record { accepted = λ v. refl; refused = λ r. refl; same = λ v w e. ap (λ (r : Summed). r.count) e }

pub one_summary : (R : Reading) (cells : ℕ) (a b : Result ℕ Refusal) → summed_by a ≡ summarised R cells → summed_by b ≡ summarised R cells → a ≡ b
one_summary R cells = once summed_by (λ (r : Summed). r.number) recorded (summarised R cells) (sum-tells R cells)

pub one_check : (R : Reading) (rows : List ℤ) (a b : Result (Unit {0}) Refusal)
    → number_told a ≡ checked R rows → number_told b ≡ checked R rows → a ≡ b
one_check R rows = checked_once (checked R rows) (check-tells R rows)

pub one_addition : (R : Reading) (rows : List ℤ) (a b : Result ℕ Refusal) → summed_by a ≡ added R rows → summed_by b ≡ added R rows → a ≡ b
one_addition R rows = once summed_by (λ (r : Summed). r.number) recorded (added R rows) (add-tells R rows)
