-- DEMAND 3: nearest points, in the words of specs/Nearest: for any parities searched, for the full coder and for the even profile.
-- Assumes nothing.
use Rattle.std.specs.Prelude.{◌≡◌, ◌≢◌, ℕ, ◌+◌, ◌<◌, ℤ, Float}
use mathlib.Core.List.{List, Memᴰ}
use Rattle.float.specs.Distance.{sq_dist, margin}
use Rattle.tetra.specs.Lattice.{LatticePoint, HasWord}
use Rattle.search.specs.Parity.{both_parities, even_parities}
use Rattle.search.specs.Block.{rule_of}
use Rattle.nearest.specs.Laws.Link.{p-lt}
use Rattle.nearest.specs.Laws.Searched.{rule_ok, both-lt, in_both, only_zero, even-lt}
use Rattle.nearest.proofs.Natural.{answered}
use Rattle.nearest.specs.Nearest.{Target, Nearest, Finds}

-- ---- the theorem, for any parities searched
pub nearest : (ps : List ℕ) → ((q : ℕ) → Memᴰ q ps → q < 2)
    → (t : List Float) → Target t
    → (y : List ℤ) (W : HasWord y) → Memᴰ W.point.p ps → Nearest ps y t
    → (n : ℕ) → Finds ps n t y
nearest ps PS t D y W m H n =
    let a = answered t D.size D.double D.bounded ps PS y W m H (rule_of n) (rule_ok n) in record { found = a.0; point = a.1 }

-- ---- the full coder searches both parities: the lattice points are all there are
pub nearest_full : (t : List Float) → Target t → (y : List ℤ) → HasWord y
    → ((z : List ℤ) → LatticePoint z → z ≢ y → sq_dist y t + margin < sq_dist z t)
    → (n : ℕ) → Finds both_parities n t y
nearest_full t D y W H = nearest both_parities both-lt t D y W (in_both W.point.p (p-lt y W.point)) (λ z Z i d. H z Z d)

-- ---- the even profile searches parity 0: the lattice points are the even ones
pub nearest-even : (t : List Float) → Target t → (y : List ℤ) (W : HasWord y) → W.point.p ≡ 0
    → ((z : List ℤ) (Z : LatticePoint z) → Z.p ≡ 0 → z ≢ y → sq_dist y t + margin < sq_dist z t)
    → (n : ℕ) → Finds even_parities n t y
nearest-even t D y W e H = nearest even_parities even-lt t D y W (Memᴰ.head e) (λ z Z m d. H z Z (only_zero Z.p m) d)
