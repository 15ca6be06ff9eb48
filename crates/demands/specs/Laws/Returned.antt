-- The code of an accepted call returns the point of the search's winner, and its word. Assumes nothing.
use Rattle.std.specs.Prelude.{◌≡◌, refl, List, ℕ, ℤ, Float}
use Rattle.std.proofs.Common.{sym, ap, subst}
use Rattle.tetra.specs.Encode.{encode_of}
use Rattle.float.specs.Calls.{quotients_of}
use Rattle.search.specs.Block.{winner_for, point_from}
use Rattle.encoder.specs.Encode.{code_of, code_for, number_at, encode_at_over}
use Rattle.encoder.specs.Numbers.{at-accepted}
use Rattle.demands.specs.Promised.{Returns}

pub returned : (ps : List ℕ) (x : List Float) (s : Float) (n : ℕ) → number_at x s n ≡ 0 → (y : List ℤ)
    → point_from (winner_for ps n (quotients_of x s)) ≡ y → Returns y (encode_at_over ps x s n)
unfolding code_for code_of
returned ps x s n a y e =
    subst (Returns y) (sym (at-accepted ps x s n a)) (record { number = refl; point = e; word = ap (λ (z : List ℤ). (encode_of z).word) e })
