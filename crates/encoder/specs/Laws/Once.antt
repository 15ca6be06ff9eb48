-- No second answer fits: what a contract says of an answer of this crate leaves one, over both parities and over the even one. Assumes nothing.
use Rattle.std.specs.Prelude.{◌≡◌, refl, List, ℕ, eqb, Float, Result}
use Rattle.std.proofs.Common.{ap, subst, sym}
use Rattle.refusal.specs.declared.Refusal.{Refusal}
use Rattle.refusal.proofs.Once.{Tells, tells, tells-either, once}
use Rattle.score.specs.declared.Choice.{Choice}
use Rattle.score.specs.Samples.{sample_number, scale_number}
use Rattle.score.specs.Choice.{choice_number}
use Rattle.score.specs.Laws.Once.{sample-tells, scale-tells, choice-tells}
use Rattle.encoder.specs.declared.Code.{Code}
use Rattle.encoder.specs.Encode.{Coding, coded_by, setting_first, encode_at_over, chosen_over, encode_over}
use Rattle.encoder.specs.Numbers.{at-number, by_number_lem, number_is}

-- the setting's 7 tells its reason, and so does what stands behind it
first-tells : (n k : ℕ) → Tells k → Tells (setting_first n k)
first-tells n k t = tells-either (eqb n 0) _ _ (tells 7 refl) t

-- an answer whose number is such a one is the only one
only : (x : Coding) (n k : ℕ) → x.number ≡ setting_first n k → Tells k → (a b : Result Code Refusal) → coded_by a ≡ x → coded_by b ≡ x → a ≡ b
only x n k e t =
    once coded_by (λ (c : Coding). c.number) (record { accepted = λ v. refl; refused = λ r. refl; same = λ v w e. ap code_in e }) x
    (subst Tells (sym e) (first-tells n k t))
  where
    code_in : Coding → Code
    code_in c = record { word = c.word; point = c.point; score = c.score }

-- ---- at a scale
pub one_at_scale : (ps : List ℕ) (x : List Float) (s : Float) (n : ℕ) (a b : Result Code Refusal)
    → coded_by a ≡ encode_at_over ps x s n → coded_by b ≡ encode_at_over ps x s n → a ≡ b
one_at_scale ps x s n = only (encode_at_over ps x s n) n (scale_number x s) (at-number ps x s n) (scale-tells x s)

-- ---- at the scale that the samples give
pub one_answer : (ps : List ℕ) (x : List Float) (n : ℕ) (a b : Result Code Refusal)
    → coded_by a ≡ encode_over ps x n → coded_by b ≡ encode_over ps x n → a ≡ b
one_answer ps x n = only (encode_over ps x n) n (sample_number x) (number_is ps x n) (sample-tells x)

-- ---- at a choice
pub one_at_choice : (ps : List ℕ) (h : Choice) (x : List Float) (n : ℕ) (a b : Result Code Refusal)
    → coded_by a ≡ chosen_over ps h x n → coded_by b ≡ chosen_over ps h x n → a ≡ b
one_at_choice ps h x n = only (chosen_over ps h x n) n (choice_number h x) (by_number_lem ps h x n) (choice-tells h x)
