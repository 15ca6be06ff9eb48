-- Every code of an accepted call is coded, and its point has a property Q, over any parities for which the point of every accepted target has
-- it: a property that points have which have a word. Assumes nothing.
use Rattle.std.proofs.Math.Path.{◌≡◌}
use Rattle.std.specs.Prelude.{refl, Bool, true, false, cond, List, ℕ, ◌^◌, ◌<◌, T, ℤ, length, Float}
use Rattle.std.proofs.Common.{sym, ap, ap₂, ◌∙◌, subst, le_of_eq}
use native.Mathlib.Omega.{arith}
use Rattle.std.specs.Float.{binary64}
use Rattle.std.specs.Float.Ieee.{fits, lt}
use Rattle.tetra.specs.Lattice.{HasWord}
use Rattle.tetra.specs.Encode.{encode_of}
use Rattle.tetra.specs.Demand2.{accepts, round_trip}
use Rattle.tetra.specs.Points.{P}
use Rattle.tetra.specs.Encode.{Encoded}
use Rattle.float.specs.Calls.{quotients_of}
use Rattle.float.specs.Laws.Arrays.{quotients-length}
use Rattle.score.specs.Samples.{AllFit, sample_number, scale_number}
use Rattle.score.specs.Scale.{choice_of, first_scale, second_scale}
use Rattle.score.specs.declared.Choice.{Choice}
use Rattle.score.specs.declared.Choice.TheVariants.{Zero, Scale, Divide}
use Rattle.score.specs.Laws.Quotient.{Keeps, KeepsBoth, choice-keeps, scale-chosen}
use Rattle.search.specs.Parity.{Winner}
use Rattle.search.specs.Block.{winner_for, point_from}
use Rattle.nearest.specs.OnPoint.{origin}
use Rattle.members.specs.Accepted.{Accepted}
use Rattle.encoder.specs.Encode.{Coding, zero_code, code_of, code_for, number_at, encode_at_over, higher, two_scales, scaled_back, code_at, number_of, encode_over}
use Rattle.encoder.specs.Numbers.{zero_says, at-accepted, is_accepted}
use Rattle.demands.specs.Promised.{Coded}
use Rattle.demands.specs.Laws.Number.{accepted, first_fits, second_fits, quotients_fit}

-- coded, with a point that has the property Q
abbrev pub CodedWith : (List ℤ → Type 0) → Coding → Type 0
CodedWith Q c = Coded c × Q c.point

-- ---- the code of a winner whose point has a word
code_of_lem : (x : List Float) (w : Winner) → HasWord (point_from w) → Coded (code_of x w)
unfolding code_of
code_of_lem x w h =
    let a = accepts (point_from w) h in
    record {
      number = refl;
      small = a.small;
      back = a.back;
      again =
          ap₂ {C = Encoded} (λ n s. record { number = n; section = s; word = (encode_of (point_from w)).word }) a.number a.section;
    }

-- 24 zeros
zeros : (t : Float) → Coded (zero_code 0 t)
zeros t =
    record {
      number = refl;
      small = small;
      back = P.0;
      again = ap encode_of (sym P.0) ∙ round_trip 0;
    }
  where
    small : 0 < 2 ^ 47
    small = omega arith

-- the score is not part of it
back : (m : Float) (c : Coding) → Coded c → Coded (scaled_back m c)
back m c k = record { number = k.number; small = k.small; back = k.back; again = k.again }

-- ---- over the parities ps, for which the point of every accepted target has a word and the property Q, as 24 zeros have
module _ (ps : List ℕ) (Q : List ℤ → Type 0) (zero : Q origin)
    (W : (t : List Float) → Accepted t → (n : ℕ) → HasWord (point_from (winner_for ps n t)))
    (K : (t : List Float) → Accepted t → (n : ℕ) → Q (point_from (winner_for ps n t))) where
  either : (a b : Coding) → CodedWith Q a → CodedWith Q b → CodedWith Q (higher a b)
  either a b i j = go (lt a.score b.score)
    where
      go : (t : Bool) → CodedWith Q (cond t b a)
      go true = j
      go false = i

  for : (x : List Float) (s : Float) (n : ℕ) → length x ≡ 24 → AllFit x → T (fits binary64 s) → scale_number x s ≡ 0 → CodedWith Q (code_for ps x s n)
  unfolding code_for code_of
  for x s n l f d e =
      let a = accepted x s l f d e in
      (code_of_lem x (winner_for ps n (quotients_of x s)) (W (quotients_of x s) a n), K (quotients_of x s) a n)

  pub at_scale_over : (x : List Float) (s : Float) (n : ℕ) → length x ≡ 24 → AllFit x → T (fits binary64 s) → number_at x s n ≡ 0
      → CodedWith Q (encode_at_over ps x s n)
  at_scale_over x s n l f d e = subst (CodedWith Q) (sym (at-accepted ps x s n e)) (for x s n l f d (zero_says n (scale_number x s) e).1)

  two : (x : List Float) (s : Float) (n : ℕ) → length x ≡ 24 → AllFit x → T (fits binary64 s) → Keeps x s × Keeps x (second_scale s)
      → CodedWith Q (two_scales ps x s n)
  unfolding two_scales
  two x s n l f d k =
      either (code_for ps x s n) (code_for ps x (second_scale s) n) (for x s n l f d k.0.accepted)
      (for x (second_scale s) n l f (second_fits s) k.1.accepted)

  by_choice : (h : Choice) (x : List Float) (n : ℕ) → length x ≡ 24 → AllFit x → T (fits binary64 (first_scale h))
      → ((h ≡ Zero → ⊥) → KeepsBoth x h) → CodedWith Q (code_at ps h x n)
  unfolding code_at
  by_choice Zero x n l f d k = (zeros _, zero)
  by_choice (Scale s) x n l f d k = two x s n l f d (k (scale-chosen s))
  by_choice (Divide m s) x n l f d k =
      let c = two (quotients_of x m) s n (quotients-length x m ∙ l) (quotients_fit x m) d (k differs) in
      (back m (two_scales ps (quotients_of x m) s n) c.0, c.1)
    where
      differs : Divide m s ≡ Zero → ⊥
      differs e = let z : ◌≡◌ {A = ℕ} 0 1 = cc in omega arith

  pub samples_over : (x : List Float) (n : ℕ) → length x ≡ 24 → AllFit x → number_of x n ≡ 0 → CodedWith Q (encode_over ps x n)
  samples_over x n l f e =
      subst (CodedWith Q) (sym (is_accepted ps x n e))
      (by_choice (choice_of x) x n l f (first_fits x) (choice-keeps x f (le_of_eq l) (zero_says n (sample_number x) e).1))
