-- THE TWO CALLS IN TURN ARE THE RUST'S `encode`, at every setting but 0: `choose` and, where that refuses nothing, the code at its choice. (At the
-- setting 0 the definition of `encode` has 7 before 1 and 2, and in turn `choose` comes first.) Assumes nothing.
use Rattle.std.specs.Prelude.{◌≡◌, Bool, List, ℕ, ◌≤◌, length, Float}
use Rattle.std.proofs.Math.Path.{refl, sym, ap}
use Rattle.std.proofs.Common.{◌∙◌}
use Rattle.std.proofs.Math.Bool.{true, false, cond}
use borrow.Author.Tests.{ne_eqb, eqb-true, eqb-false}
use Rattle.std.proofs.Math.Dec.{eqb}
use Rattle.score.specs.Samples.{AllFit, sample_number}
use Rattle.score.specs.Scale.{choice_of}
use Rattle.score.specs.declared.Choice.{Choice}
use Rattle.score.specs.declared.Choice.TheVariants.{Zero}
use Rattle.score.specs.Choice.{Chosen, chosen}
use Rattle.score.specs.Laws.Choice.{choice-accepted}
use Rattle.encoder.specs.Encode.{empty_code, number_by, chosen_over, number_of, encode_over, in_turn}
use Rattle.encoder.specs.Numbers.{by_accepted, is_accepted, is_refused}

-- ---- the first call: its number is that of the samples, so what the Rust's `encode` has at each setting but 0
pub chosen-number : (x : List Float) → (chosen x).number ≡ sample_number x
unfolding chosen
chosen-number x = go (eqb (sample_number x) 0) refl
  where
    go : (b : Bool) → eqb (sample_number x) 0 ≡ b
        → (cond {A = Chosen} b (record { number = 0; choice = choice_of x }) (record { number = sample_number x; choice = Zero })).number ≡ sample_number x
    go true e = sym (eqb-true (sample_number x) 0 e)
    go false e = refl

pub chosen-choice : (x : List Float) → sample_number x ≡ 0 → (chosen x).choice ≡ choice_of x
unfolding chosen
chosen-choice x e = rw e

-- ---- one after the other
module _ (ps : List ℕ) (x : List Float) (n : ℕ) (f : AllFit x) (l : length x ≤ 24) (m : n ≡ 0 → ⊥) where
  -- the second call accepts the choice that the first one made,
  own_number : sample_number x ≡ 0 → (number_by (choice_of x) x n ≡ 0) × (number_of x n ≡ 0)
  own_number e = (rw (ne_eqb n 0 m) (choice-accepted x f l e), rw (ne_eqb n 0 m) e)

  -- and its code is the Rust's
  pub own_code : sample_number x ≡ 0 → chosen_over ps (choice_of x) x n ≡ encode_over ps x n
  own_code e = by_accepted ps (choice_of x) x n (own_number e).0 ∙ sym (is_accepted ps x n (own_number e).1)

  pub in_turn_lem : in_turn ps x n ≡ encode_over ps x n
  unfolding in_turn
  in_turn_lem = go (eqb (chosen x).number 0) refl
    where
      go : (b : Bool) → eqb (chosen x).number 0 ≡ b → cond b (chosen_over ps (chosen x).choice x n) (empty_code (chosen x).number) ≡ encode_over ps x n
      go true q =
          let e = sym (chosen-number x) ∙ eqb-true (chosen x).number 0 q in
          ap (λ (h : Choice). chosen_over ps h x n) (chosen-choice x e) ∙ own_code e
      go false q =
          let k : number_of x n ≡ (chosen x).number = rw (ne_eqb n 0 m) (sym (chosen-number x)) in
          ap empty_code (sym k) ∙ sym (is_refused ps x n (λ z. eqb-false (chosen x).number 0 q (sym k ∙ z)))
