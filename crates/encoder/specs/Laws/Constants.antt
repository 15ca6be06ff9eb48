-- The setting of a call that names none, and the empty code, by what they are: so neither can become another in the
-- definition and in the code together. Assumes nothing.
use Rattle.std.specs.Prelude.{◌≡◌, List, ℕ, ◌≤◌, pos, replicate, Float}
use Rattle.std.proofs.Math.Path.{refl, ap, ap₂}
use Rattle.std.proofs.Common.{sym, arith, ne_eqb}
use Rattle.std.specs.Float.{binary64}
use Rattle.std.specs.Float.Ieee.{of_bits}
use Rattle.laws.specs.Words.{tab}
use Rattle.float.specs.Calls.{quotients_of}
use Rattle.score.specs.Samples.{sample_number}
use Rattle.score.specs.Scale.{choice_of, second_scale}
use Rattle.score.specs.Choice.{choice_number}
use Rattle.score.specs.declared.Choice.{Choice}
use Rattle.score.specs.declared.Choice.TheVariants.{Zero, Scale, Divide}
use Rattle.search.specs.Tables.{tables}
use Rattle.search.specs.Entries.{Rule}
use Rattle.search.specs.Parity.{both_parities, search}
use Rattle.search.specs.Block.{targets_of}
use Rattle.search.specs.Laws.Constants.{all_shrinks_lem}
use Rattle.encoder.specs.Encode.{
  empty_code,
  answered,
  code_of,
  code_for,
  higher,
  two_scales,
  scaled_back,
  code_at,
  encode_over,
  encode_with,
  encode_samples_over,
  encode_samples,
  chosen_over,
  encode_chosen_with,
  chosen_samples_over,
  encode_chosen,
}

-- ---- a call that names no setting runs all shrinks: each setting from 8 on gives what it gives
module _ (ps : List ℕ) (n : ℕ) (h : 8 ≤ n) where
  at_one : (x : List Float) (s : Float) → code_for ps x s n ≡ code_for ps x s 8
  unfolding code_for
  at_one x s =
      ap (λ (u : Rule). code_of x (search tables u (targets_of (quotients_of x s)) ps)) (all_shrinks_lem n h)

  at-two : (x : List Float) (s : Float) → two_scales ps x s n ≡ two_scales ps x s 8
  unfolding two_scales
  at-two x s = ap₂ higher (at_one x s) (at_one x (second_scale s))

  at-choice : (c : Choice) (x : List Float) → code_at ps c x n ≡ code_at ps c x 8
  unfolding code_at
  at-choice Zero x = refl
  at-choice (Scale s) x = at-two x s
  at-choice (Divide m s) x = ap (scaled_back m) (at-two (quotients_of x m) s)

pub no_setting_over : (ps : List ℕ) (n : ℕ) → 8 ≤ n → (x : List Float) → encode_samples_over ps x ≡ encode_over ps x n
unfolding encode_over
no_setting_over ps n h x =
    rw (ne_eqb n 0 (λ e. omega arith))
    (ap (answered (sample_number x)) (sym (at-choice ps n h (choice_of x) x)))

pub no_setting_is-all : (n : ℕ) → 8 ≤ n → (x : List Float) → encode_samples x ≡ encode_with x n
no_setting_is-all = no_setting_over both_parities

-- at any choice,
pub no_setting-chosen_over : (ps : List ℕ) (n : ℕ) → 8 ≤ n → (h : Choice) (x : List Float) → chosen_samples_over ps h x ≡ chosen_over ps h x n
unfolding chosen_over
no_setting-chosen_over ps n l h x =
    rw (ne_eqb n 0 (λ e. omega arith))
    (ap (answered (choice_number h x)) (sym (at-choice ps n l h x)))

-- over both parities
pub no_setting-chosen : (n : ℕ) → 8 ≤ n → (h : Choice) (x : List Float) → encode_chosen h x ≡ encode_chosen_with h x n
no_setting-chosen = no_setting-chosen_over both_parities

-- ---- the empty code is word 0, 24 zeros, score +0.0, whose bits are all 0
pub empty_is : (n : ℕ)
    → empty_code n ≡ record { number = n; word = 0; point = replicate 24 (pos 0); score = of_bits binary64 0 }
unfolding tab of_bits
empty_is n = refl
