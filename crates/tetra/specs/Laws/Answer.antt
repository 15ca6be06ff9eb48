-- The answers of `encode` in document 02's terms: the word of each, and that no two are told alike. Assumes nothing.
use Rattle.std.specs.Prelude.{◌≡◌, refl, ℕ, Result, Ok, Err}
use Rattle.std.proofs.Common.{ap, sym, ◌∙◌}
use Rattle.std.specs.Result.{result_unwrap_or}
use Rattle.refusal.specs.declared.Refusal.{Refusal}
use Rattle.refusal.proofs.Apart.{never_0, told_apart}
use Rattle.tetra.specs.Encode.{Encoded, encoded_by}

-- the word of an answer, 0 where there is none
pub encoded-word : (r : Result ℕ Refusal) → result_unwrap_or r 0 ≡ (encoded_by r).word
encoded-word (Ok w) = refl
encoded-word (Err e) = refl

pub encoded_apart : (a b : Result ℕ Refusal) → encoded_by a ≡ encoded_by b → a ≡ b
encoded_apart (Ok v) (Ok w) e = ap Ok (ap (λ (r : Encoded). r.word) e)
encoded_apart (Ok v) (Err s) e = absurd (never_0 s (sym (ap (λ (r : Encoded). r.number) e)))
encoded_apart (Err r) (Ok w) e = absurd (never_0 r (ap (λ (x : Encoded). x.number) e))
encoded_apart (Err r) (Err s) e = ap Err (told_apart r s (ap (λ (x : Encoded). x.number) e) (ap (λ (x : Encoded). x.section) e))
