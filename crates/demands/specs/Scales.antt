-- `encode` tries the derived scale and 1.14 times it: where the samples need no division, its code is the higher of the codes that
-- `encode_at_scale` answers at the two, and both of those calls are accepted. So neither 3 nor 4 ever comes up in it. Assumes nothing.
use Rattle.std.specs.Prelude.{◌≡◌, List, ℕ, length, Float}
use Rattle.std.proofs.Common.{sym, ap, ap₂, ◌∙◌, subst, le_of_eq, ne_eqb}
use Rattle.score.specs.Samples.{AllFit, sample_number, scale_number}
use Rattle.score.specs.Scale.{choice_of, second_scale}
use Rattle.score.specs.declared.Choice.{Choice}
use Rattle.score.specs.declared.Choice.TheVariants.{Scale}
use Rattle.score.specs.Laws.Quotient.{KeepsBoth, choice-keeps, scale-chosen}
use Rattle.encoder.specs.Encode.{number_at, encode_at_over, higher, two_scales, code_at, number_of}
use Rattle.encoder.specs.Numbers.{zero_says, at-accepted, is_accepted}
use Rattle.demands.specs.Promised.{TwoCalls}

pub two_calls : (ps : List ℕ) (x : List Float) (s : Float) (n : ℕ) → length x ≡ 24 → AllFit x → number_of x n ≡ 0 → choice_of x ≡ Scale s
    → TwoCalls ps x s n
unfolding code_at two_scales
two_calls ps x s n l f e c =
    let k = subst (KeepsBoth x) c (choice-keeps x f (le_of_eq l) (zero_says n (sample_number x) e).1 (λ z. scale-chosen s (sym c ∙ z))) in
    let i = accepted s k.0.accepted in
    let j = accepted (second_scale s) k.1.accepted in
    record { first = i; second = j; code = is_accepted ps x n e ∙ ap (λ (h : Choice). code_at ps h x n) c ∙ both i j }
  where
    accepted : (t : Float) → scale_number x t ≡ 0 → number_at x t n ≡ 0
    accepted t q = rw (ne_eqb n 0 (zero_says n (sample_number x) e).0) q

    both : number_at x s n ≡ 0 → number_at x (second_scale s) n ≡ 0
        → code_at ps (Scale s) x n ≡ higher (encode_at_over ps x s n) (encode_at_over ps x (second_scale s) n)
    both i j = ap₂ higher (sym (at-accepted ps x s n i)) (sym (at-accepted ps x (second_scale s) n j))
