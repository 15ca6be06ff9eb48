-- Samples to codes: `code_of`, `encode_at_scale`, `two_scales` and `encode` of encoder.rs, with document 01's refusals, and `encode` split in two
-- as request 2026-07 of document 02 has it. The search goes over the parities ps, at the setting n of the shrinks. Definitions only.
use Rattle.std.specs.Prelude.{true, cond, List, ℕ, ℤ, eqb, pos, Float, Result, Ok, Err}
use Rattle.std.specs.Float.{inf, binary64}
use Rattle.std.specs.Float.Ieee.{mul, lt}
use Rattle.laws.specs.Words.{tab}
use Rattle.refusal.specs.declared.Refusal.{Refusal}
use Rattle.refusal.specs.Refusal.{out_of_range, number_of as number_told}
use Rattle.tetra.specs.Encode.{encode_of}
use Rattle.float.specs.Value.{zero64}
use Rattle.float.specs.Calls.{quotients_of}
use Rattle.score.specs.Samples.{sample_number, scale_number}
use Rattle.score.specs.Score.{t_of}
use Rattle.score.specs.Scale.{choice_of, second_scale}
use Rattle.score.specs.Choice.{Chosen, chosen, choice_number}
use Rattle.score.specs.declared.Choice.{Choice}
use Rattle.score.specs.declared.Choice.TheVariants.{Zero, Scale, Divide}
use Rattle.search.specs.Parity.{Winner, both_parities}
use Rattle.search.specs.Block.{point_from, winner_for}
use Rattle.encoder.specs.declared.Code.{Code}

-- ---- what the calls answer: number 0, the word, the point in natural order, and the score; or the number of a refusal, and the empty code
pub record Coding : Type 0 where
  pub number : ℕ
  pub word : ℕ
  pub point : List ℤ
  pub score : Float

-- word 0 and 24 zeros, with a number and a score
abbrev pub zero_code : ℕ → Float → Coding
zero_code n t = record { number = n; word = 0; point = tab (λ (i : ℕ). pos 0) 24; score = t }

-- what a refused call answers: the empty code
abbrev pub empty_code : ℕ → Coding
empty_code n = zero_code n zero64

abbrev pub coded_by : Result Code Refusal → Coding
coded_by (Ok c) = record { number = 0; word = c.word; point = c.point; score = c.score }
coded_by (Err r) = empty_code (number_told r)

-- the number of a call is 7 at the setting 0, before everything else
abbrev pub setting_first : ℕ → ℕ → ℕ
setting_first n k = cond (eqb n 0) out_of_range k

-- an answer by its number: the code where that is 0
abbrev pub answered : ℕ → Coding → Coding
answered k c = cond (eqb k 0) c (empty_code k)

-- `code_of`: the point of a winner, the word of that point (where the Rust packs the fields of the winner's path), and the score
unfoldable pub code_of : List Float → Winner → Coding
code_of x w = record { number = 0; word = (encode_of (point_from w)).word; point = point_from w; score = t_of x (point_from w) }

-- ---- at one scale
-- the target is the 24 quotients
unfoldable pub code_for : List ℕ → List Float → Float → ℕ → Coding
code_for ps x s n = code_of x (winner_for ps n (quotients_of x s))

-- 7, then 3, 1, 2, 4; 0 where the call is accepted
abbrev pub number_at : List Float → Float → ℕ → ℕ
number_at x s n = setting_first n (scale_number x s)

-- over the parities ps,
unfoldable pub encode_at_over : List ℕ → List Float → Float → ℕ → Coding
encode_at_over ps x s n = answered (number_at x s n) (code_for ps x s n)

-- and `encode_at_scale`, over both
abbrev pub encode_at_scale : List Float → Float → ℕ → Coding
encode_at_scale x s n = encode_at_over both_parities x s n

-- ---- at two scales
-- the first unless the second scores higher
abbrev pub higher : Coding → Coding → Coding
higher a b = cond (lt a.score b.score) b a

-- `two_scales`: at s and at 1.14 times it
unfoldable pub two_scales : List ℕ → List Float → Float → ℕ → Coding
two_scales ps x s n = higher (code_for ps x s n) (code_for ps x (second_scale s) n)

-- ---- at a choice of scale
-- the score of samples that were divided by m
abbrev pub scaled_back : Float → Coding → Coding
scaled_back m c = record { number = c.number; word = c.word; point = c.point; score = mul binary64 c.score m }

-- zeros have the word 0 and score minus infinity; samples of a scale that is no normal number are divided first
unfoldable pub code_at : List ℕ → Choice → List Float → ℕ → Coding
code_at ps Zero x n = zero_code 0 (inf true)
code_at ps (Scale s) x n = two_scales ps x s n
code_at ps (Divide m s) x n = scaled_back m (two_scales ps (quotients_of x m) s n)

-- 7, then 3, 1, 2, 4
abbrev pub number_by : Choice → List Float → ℕ → ℕ
number_by h x n = setting_first n (choice_number h x)

-- over the parities ps, at any choice,
unfoldable pub chosen_over : List ℕ → Choice → List Float → ℕ → Coding
chosen_over ps h x n = answered (number_by h x n) (code_at ps h x n)

-- and `encode_chosen_with`, over both
abbrev pub encode_chosen_with : Choice → List Float → ℕ → Coding
encode_chosen_with h x n = chosen_over both_parities h x n

-- with no setting: it is 8
abbrev pub chosen_samples_over : List ℕ → Choice → List Float → Coding
chosen_samples_over ps h x = chosen_over ps h x 8

-- and `encode_chosen`, over both
abbrev pub encode_chosen : Choice → List Float → Coding
encode_chosen h x = chosen_samples_over both_parities h x

-- ---- at the choice that the samples give: what the Rust's `encode` answers
-- 7, then 1, 2
abbrev pub number_of : List Float → ℕ → ℕ
number_of x n = setting_first n (sample_number x)

-- over the parities ps,
unfoldable pub encode_over : List ℕ → List Float → ℕ → Coding
encode_over ps x n = answered (number_of x n) (code_at ps (choice_of x) x n)

-- and the production call with a setting, over both
abbrev pub encode_with : List Float → ℕ → Coding
encode_with x n = encode_over both_parities x n

-- ---- with no setting: it is 8
abbrev pub encode_samples_over : List ℕ → List Float → Coding
encode_samples_over ps x = encode_over ps x 8

-- and `encode`, over both
abbrev pub encode_samples : List Float → Coding
encode_samples x = encode_samples_over both_parities x

-- ---- one call after the other: `choose`, and, where that refuses nothing, the code at its choice
abbrev pub coded_as : List ℕ → Chosen → List Float → ℕ → Coding
coded_as ps h x n = cond (eqb h.number 0) (chosen_over ps h.choice x n) (empty_code h.number)

unfoldable pub in_turn : List ℕ → List Float → ℕ → Coding
in_turn ps x n = coded_as ps (chosen x) x n
