-- DEMAND 3 over the public calls: where a point that has a word is nearer to the quotients of accepted samples and scale than every other point
-- of the Leech lattice, by more than 2 ^ -20 in exact squared distance, `encode_at_scale` answers number 0 and that point (`Returns`), at every
-- setting that it accepts. In the even profile the points are those with even coordinates. It is proved once over the parities searched, and
-- these are its two instances. What the words mean is said in nearest/specs/Nearest. Assumes nothing.
use Rattle.std.specs.Prelude.{◌≡◌, ◌≢◌, ℕ, ◌+◌, ◌<◌, T, length, ℤ, Float}
use Rattle.std.proofs.Common.{sym, subst, ◌∙◌, zero-lt-suc}
use mathlib.Core.List.{List, Memᴰ}
use Rattle.std.specs.Float.{binary64}
use Rattle.std.specs.Float.Ieee.{fits}
use Rattle.tetra.specs.Lattice.{LatticePoint, HasWord}
use Rattle.float.specs.Value.{one64}
use Rattle.float.specs.Calls.{quotients_of}
use Rattle.float.specs.Distance.{sq_dist, margin}
use Rattle.score.specs.Samples.{AllFit, scale_number}
use Rattle.search.specs.Parity.{both_parities, even_parities}
use Rattle.search.specs.Block.{winner_for, point_from}
use Rattle.encoder.specs.Encode.{number_at, encode_at_over, encode_at_scale}
use Rattle.encoder.specs.Numbers.{zero_says}
use Rattle.nearest.specs.Nearest.{Nearest, doubles}
use Rattle.nearest.proofs.Nearest.{nearest}
use Rattle.nearest.proofs.OnPoint.{on_a_point}
use Rattle.nearest.specs.Laws.Link.{p-lt}
use Rattle.nearest.specs.Laws.Searched.{both-lt, in_both, only_zero, even-lt}
use Rattle.demands.specs.Promised.{Even, Returns}
use Rattle.demands.specs.Laws.Number.{accepted}
use Rattle.demands.specs.Laws.OnPoint.{own_target, number_here}
use Rattle.demands.specs.Laws.Returned.{returned}

-- the parity of an even point that has a word is among those of the profile
of_even : (y : List ℤ) (W : HasWord y) → Even y → Memᴰ W.point.p even_parities
of_even y W e = Memᴰ.head (sym (W.point.one_parity_lem 0 (zero-lt-suc 23)) ∙ e 0 (zero-lt-suc 23))

-- ---- nearest points
-- over any parities: nearer than every other lattice point whose parity is among them
pub nearest_over : (ps : List ℕ) → ((q : ℕ) → Memᴰ q ps → q < 2)
    → (x : List Float) (s : Float) (n : ℕ) → length x ≡ 24 → AllFit x → T (fits binary64 s) → number_at x s n ≡ 0
    → (y : List ℤ) (W : HasWord y) → Memᴰ W.point.p ps → Nearest ps y (quotients_of x s)
    → Returns y (encode_at_over ps x s n)
nearest_over ps PS x s n l f d e y W m H =
    returned ps x s n e y
    (nearest ps PS (quotients_of x s) (accepted x s l f d (zero_says n (scale_number x s) e).1).target y W m H n).point

-- the full coder: than every other lattice point
pub nearest-at_scale : (x : List Float) (s : Float) (n : ℕ) → length x ≡ 24 → AllFit x → T (fits binary64 s) → number_at x s n ≡ 0
    → (y : List ℤ) → HasWord y
    → ((z : List ℤ) → LatticePoint z → z ≢ y → sq_dist y (quotients_of x s) + margin < sq_dist z (quotients_of x s))
    → Returns y (encode_at_scale x s n)
nearest-at_scale x s n l f d e y W H =
    nearest_over both_parities both-lt x s n l f d e y W (in_both W.point.p (p-lt y W.point)) (λ z Z m. H z Z)

-- the even profile: an even point, than every other lattice point with even coordinates
pub nearest-even_at_scale : (x : List Float) (s : Float) (n : ℕ) → length x ≡ 24 → AllFit x → T (fits binary64 s) → number_at x s n ≡ 0
    → (y : List ℤ) → Even y → HasWord y
    → ((z : List ℤ) → LatticePoint z → Even z → z ≢ y → sq_dist y (quotients_of x s) + margin < sq_dist z (quotients_of x s))
    → Returns y (encode_at_over even_parities x s n)
nearest-even_at_scale x s n l f d e y E W H =
    nearest_over even_parities even-lt x s n l f d e y W (of_even y W E)
    (λ z Z m. H z Z (λ i h. Z.one_parity_lem i h ∙ only_zero Z.p m))

-- ---- so every point that has a word is returned where its coordinates are the samples and the scale is 1: the call is accepted, and every other
-- lattice point is at least 1 away
own_point_over : (ps : List ℕ) → ((q : ℕ) → Memᴰ q ps → q < 2) → (y : List ℤ) (W : HasWord y) → Memᴰ W.point.p ps
    → (n : ℕ) → n ≢ 0 → Returns y (encode_at_over ps (doubles y) one64 n)
own_point_over ps PS y W m n d =
    returned ps (doubles y) one64 n (number_here y W n d) y
    (subst (λ (t : List Float). point_from (winner_for ps n t) ≡ y) (sym (own_target y W)) (on_a_point y W ps PS m n).point)

pub own_point : (y : List ℤ) → HasWord y → (n : ℕ) → n ≢ 0 → Returns y (encode_at_scale (doubles y) one64 n)
own_point y W = own_point_over both_parities both-lt y W (in_both W.point.p (p-lt y W.point))

-- and in the profile every even one
pub own_even_point : (y : List ℤ) → HasWord y → Even y → (n : ℕ) → n ≢ 0 → Returns y (encode_at_over even_parities (doubles y) one64 n)
own_even_point y W e = own_point_over even_parities even-lt y W (of_even y W e)
