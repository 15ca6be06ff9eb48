-- The full coder and the even profile at a scale: where the full coder's point is even, its code is the profile's. So it is in every call that
-- refuses, too. At the scale that the samples give there is no such theorem: docs/COMPARISON.md has blocks whose codes differ though both points
-- are even. Assumes nothing.
use Rattle.std.specs.Prelude.{◌≡◌, refl, Bool, true, false, List, ℕ, T, eqb, length, Float}
use Rattle.std.proofs.Math.Path.{sym}
use Rattle.std.proofs.Common.{ap, subst, ◌∙◌, zero-lt-suc, eqb-true}
use Rattle.std.proofs.lemmas.Bool.{eqb-false}
use Rattle.std.specs.Float.{binary64}
use Rattle.std.specs.Float.Ieee.{fits}
use Rattle.float.specs.Calls.{quotients_of}
use Rattle.score.specs.Samples.{AllFit, scale_number}
use Rattle.search.specs.Tables.{tables}
use Rattle.search.specs.Parity.{Winner, both_parities, even_parities}
use Rattle.search.specs.Block.{rule_of, targets_of, winner_for}
use Rattle.search.proofs.Parity.{even_stays}
use Rattle.members.proofs.Members.{parity_is}
use Rattle.encoder.specs.Encode.{Coding, code_of, code_for, number_at, encode_at_over, encode_at_scale}
use Rattle.encoder.specs.Numbers.{zero_says, at-accepted, at-refused}
use Rattle.demands.specs.Promised.{Even}
use Rattle.demands.specs.Laws.Number.{accepted}

module _ (x : List Float) (s : Float) (n : ℕ) (l : length x ≡ 24) (f : AllFit x) (d : T (fits binary64 s)) where
  -- the winner over both parities
  abbrev w : Winner
  w = winner_for both_parities n (quotients_of x s)

  -- has the parity of its point;
  of_winner : scale_number x s ≡ 0 → Even (code_for both_parities x s n).point → w.p ≡ 0
  unfolding code_for code_of
  of_winner e h = sym (parity_is (quotients_of x s) (accepted x s l f d e) n 0 (zero-lt-suc 23)) ∙ h 0 (zero-lt-suc 23)

  -- where that is even, the profile finds it too
  same : w.p ≡ 0 → code_for even_parities x s n ≡ code_for both_parities x s n
  unfolding code_for
  same e = sym (ap (code_of x) (even_stays tables (rule_of n) (targets_of (quotients_of x s)) e))

  pub even_agrees : Even (encode_at_scale x s n).point → encode_at_over even_parities x s n ≡ encode_at_scale x s n
  even_agrees = go (eqb (number_at x s n) 0) refl
    where
      go : (b : Bool) → eqb (number_at x s n) 0 ≡ b → Even (encode_at_scale x s n).point → encode_at_over even_parities x s n ≡ encode_at_scale x s n
      go true q h =
          let e = eqb-true (number_at x s n) 0 q in
          let a = at-accepted both_parities x s n e in
          at-accepted even_parities x s n e
          ∙ same (of_winner (zero_says n (scale_number x s) e).1 (subst (λ (c : Coding). Even c.point) a h)) ∙ sym a
      go false q h = let m = eqb-false (number_at x s n) 0 q in at-refused even_parities x s n m ∙ sym (at-refused both_parities x s n m)
