-- A line that does not begin with an e, the byte 101, is answered as by the full coder: no request of before has changed. Assumes nothing.
use Rattle.std.specs.Prelude.{◌≡◌, refl, List, [], ◌∷◌, ℕ}
use Rattle.std.proofs.Common.{ne_eqb}
use Rattle.text.specs.Lines.{begins}
use Rattle.request.specs.Words.{after_name}
use Rattle.answers.specs.Answers.{answer_of}
use Rattle.even_answers.specs.EvenAnswers.{even_answer_of}

pub empty_line : even_answer_of [] ≡ answer_of []
unfolding even_answer_of after_name begins
empty_line = refl

pub other-line : (b : ℕ) (s : List ℕ) → (b ≡ 101 → ⊥) → even_answer_of (b ∷ s) ≡ answer_of (b ∷ s)
unfolding even_answer_of after_name begins
other-line b s n = rw (ne_eqb b 101 n)
