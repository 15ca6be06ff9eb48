-- `promise::even_word` meets its contract. Assumes nothing.
use Rattle.std.specs.Prelude.{◌≡◌, refl, List, ℕ, ℤ, pos, Result, Ok, Err}
use Rattle.std.specs.Result.{result_unwrap_or}
use Rattle.std.proofs.Common.{ap, ◌∙◌}
use Rattle.laws.specs.Words.{tab}
use Rattle.refusal.specs.declared.Refusal.{Refusal}
use Rattle.even.specs.Even.{decoded_by, even_encoded}
use Rattle.promise.proofs.Evens.{of_word}
use Rattle.promise.proofs.even_word.Goals as goal

-- a refusal has 24 zeros
point_or_zeros : (r : Result (List ℤ) Refusal) → result_unwrap_or r (tab (λ (i : ℕ). pos 0) 24) ≡ (decoded_by r).point
point_or_zeros (Ok y) = refl
point_or_zeros (Err e) = refl

pub returns : goal.returns
unfolding tab
returns c =
    of_word c.args.word _ _ _ c.check-checked.ensures c.decode-decoded.ensures
    (c.encode_point-back.ensures ∙ ap even_encoded (c.unwrap_or.ensures ∙ point_or_zeros c.decode-decoded.result))
