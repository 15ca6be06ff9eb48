-- The number of each call, and that its code is empty where the number is not 0: 7 at the setting 0, then 3, 1, 2, 4 at a scale and at a choice;
-- 7, 1, 2 where the samples give the scale, so 3 and 4 never. Assumes nothing.
use Rattle.std.specs.Prelude.{◌≡◌, refl, Bool, true, false, cond, ◌↔◌, List, ℕ, ◌<◌, eqb, Float}
use Rattle.std.proofs.Common.{sym, ◌∙◌, arith, eq-eqb, ne_eqb, eqb-true}
use Rattle.std.proofs.lemmas.Bool.{eqb-false}
use Rattle.std.specs.Float.Ieee.{lt}
use Rattle.score.specs.Samples.{limit64, unbounded, exceeds, some, sample_number, scale_number}
use Rattle.score.specs.Scale.{choice_of, second_scale}
use Rattle.score.specs.Choice.{choice_number}
use Rattle.score.specs.declared.Choice.{Choice}
use Rattle.score.specs.declared.Choice.TheVariants.{Zero, Scale, Divide}
use Rattle.encoder.specs.Encode.{
  Coding,
  empty_code,
  setting_first,
  answered,
  code_of,
  code_for,
  number_at,
  encode_at_over,
  higher,
  two_scales,
  code_at,
  number_by,
  chosen_over,
  number_of,
  encode_over,
}

-- ---- an answer by its number
module _ (n k : ℕ) (c : Coding) where
  pub no_setting : n ≡ 0 → answered (setting_first n k) c ≡ empty_code 7
  no_setting e = rw (eq-eqb n 0 e)

  pub refused : (n ≡ 0 → ⊥) → (k ≡ 0 → ⊥) → answered (setting_first n k) c ≡ empty_code k
  refused m h = rw (ne_eqb n 0 m, ne_eqb k 0 h)

  pub accepted : (n ≡ 0 → ⊥) → k ≡ 0 → answered (setting_first n k) c ≡ c
  accepted m h = rw (ne_eqb n 0 m, eq-eqb k 0 h)

  -- by the number alone
  pub answered-code : setting_first n k ≡ 0 → answered (setting_first n k) c ≡ c
  answered-code e = rw (eq-eqb (setting_first n k) 0 e)

  pub answered_empty : (setting_first n k ≡ 0 → ⊥) → answered (setting_first n k) c ≡ empty_code (setting_first n k)
  answered_empty h = rw (ne_eqb (setting_first n k) 0 h)

  -- the answer carries it, where a code's own number is 0
  pub answered-number : c.number ≡ 0 → (answered (setting_first n k) c).number ≡ setting_first n k
  answered-number e = go (eqb (setting_first n k) 0) refl
    where
      go : (b : Bool) → eqb (setting_first n k) 0 ≡ b → (cond b c (empty_code (setting_first n k))).number ≡ setting_first n k
      go true h = e ∙ sym (eqb-true (setting_first n k) 0 h)
      go false h = refl

-- the setting 0 alone gives 7
pub seven_iff : (n k : ℕ) → k < 7 → (setting_first n k ≡ 7) ↔ (n ≡ 0)
seven_iff n k h = (go (eqb n 0) refl, λ e. rw (eq-eqb n 0 e))
  where
    go : (b : Bool) → eqb n 0 ≡ b → cond b 7 k ≡ 7 → n ≡ 0
    go true e q = eqb-true n 0 e
    go false e q = absurd (omega arith)

-- a number that is 0 says that the setting is not, and that nothing else refuses
pub zero_says : (n k : ℕ) → setting_first n k ≡ 0 → (n ≡ 0 → ⊥) × (k ≡ 0)
zero_says n k = go (eqb n 0) refl
  where
    go : (b : Bool) → eqb n 0 ≡ b → cond b 7 k ≡ 0 → (n ≡ 0 → ⊥) × (k ≡ 0)
    go true e q = absurd (omega arith)
    go false e q = (eqb-false n 0 e, q)

-- ---- at a scale
pub at-number : (ps : List ℕ) (x : List Float) (s : Float) (n : ℕ) → (encode_at_over ps x s n).number ≡ number_at x s n
unfolding encode_at_over code_for code_of
at-number ps x s n = answered-number n (scale_number x s) (code_for ps x s n) refl

pub at-accepted : (ps : List ℕ) (x : List Float) (s : Float) (n : ℕ) → number_at x s n ≡ 0 → encode_at_over ps x s n ≡ code_for ps x s n
unfolding encode_at_over
at-accepted ps x s n e = answered-code n (scale_number x s) (code_for ps x s n) e

pub at-refused : (ps : List ℕ) (x : List Float) (s : Float) (n : ℕ) → (number_at x s n ≡ 0 → ⊥) → encode_at_over ps x s n ≡ empty_code (number_at x s n)
unfolding encode_at_over
at-refused ps x s n h = answered_empty n (scale_number x s) (code_for ps x s n) h

-- ---- at a choice
either : (a b : Coding) → a.number ≡ 0 → b.number ≡ 0 → (higher a b).number ≡ 0
either a b i j = go (lt a.score b.score)
  where
    go : (t : Bool) → (cond t b a).number ≡ 0
    go true = j
    go false = i

two-number : (ps : List ℕ) (x : List Float) (s : Float) (n : ℕ) → (two_scales ps x s n).number ≡ 0
unfolding two_scales code_for code_of
two-number ps x s n = either (code_for ps x s n) (code_for ps x (second_scale s) n) refl refl

pub choice_number_lem : (ps : List ℕ) (h : Choice) (x : List Float) (n : ℕ) → (code_at ps h x n).number ≡ 0
unfolding code_at
choice_number_lem ps Zero x n = refl
choice_number_lem ps (Scale s) x n = two-number ps x s n
choice_number_lem ps (Divide m s) x n = two-number ps _ s n

pub by_number_lem : (ps : List ℕ) (h : Choice) (x : List Float) (n : ℕ) → (chosen_over ps h x n).number ≡ number_by h x n
unfolding chosen_over
by_number_lem ps h x n = answered-number n (choice_number h x) (code_at ps h x n) (choice_number_lem ps h x n)

pub by_accepted : (ps : List ℕ) (h : Choice) (x : List Float) (n : ℕ) → number_by h x n ≡ 0 → chosen_over ps h x n ≡ code_at ps h x n
unfolding chosen_over
by_accepted ps h x n e = answered-code n (choice_number h x) (code_at ps h x n) e

pub by_refused : (ps : List ℕ) (h : Choice) (x : List Float) (n : ℕ) → (number_by h x n ≡ 0 → ⊥) → chosen_over ps h x n ≡ empty_code (number_by h x n)
unfolding chosen_over
by_refused ps h x n e = answered_empty n (choice_number h x) (code_at ps h x n) e

-- ---- at the scale that the samples give
pub number_is : (ps : List ℕ) (x : List Float) (n : ℕ) → (encode_over ps x n).number ≡ number_of x n
unfolding encode_over
number_is ps x n = answered-number n (sample_number x) (code_at ps (choice_of x) x n) (choice_number_lem ps (choice_of x) x n)

pub is_accepted : (ps : List ℕ) (x : List Float) (n : ℕ) → number_of x n ≡ 0 → encode_over ps x n ≡ code_at ps (choice_of x) x n
unfolding encode_over
is_accepted ps x n e = answered-code n (sample_number x) (code_at ps (choice_of x) x n) e

pub is_refused : (ps : List ℕ) (x : List Float) (n : ℕ) → (number_of x n ≡ 0 → ⊥) → encode_over ps x n ≡ empty_code (number_of x n)
unfolding encode_over
is_refused ps x n h = answered_empty n (sample_number x) (code_at ps (choice_of x) x n) h

-- never 3, never 4: a number above 2 is the 7 of the setting 0
sample_small : (x : List Float) → sample_number x < 3
unfolding sample_number
sample_small x = go (some unbounded x) (some (exceeds limit64) x)
  where
    go : (a b : Bool) → cond a 1 (cond b 2 0) < 3
    go true b = omega arith
    go false true = omega arith
    go false false = omega arith

pub never_3-or_4 : (x : List Float) (n : ℕ) → (number_of x n ≡ 3 → ⊥) × (number_of x n ≡ 4 → ⊥)
never_3-or_4 x n = go (eqb n 0) (sample_small x)
  where
    go : (b : Bool) → sample_number x < 3 → (cond b 7 (sample_number x) ≡ 3 → ⊥) × (cond b 7 (sample_number x) ≡ 4 → ⊥)
    go true h = (λ e. omega arith, λ e. omega arith)
    go false h = (λ e. omega arith, λ e. omega arith)
