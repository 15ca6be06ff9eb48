-- The search finds each point that has a word where the target is the point itself, odd or even; and it meets demand 3 at every setting.
-- Assumes nothing.
use Rattle.std.specs.Prelude.{◌≡◌, ℕ, ◌<◌, ℤ}
use Rattle.std.proofs.Common.{subst}
use mathlib.Core.List.{List, Memᴰ}
use Rattle.tetra.specs.Lattice.{HasWord}
use Rattle.tetra.specs.Tetra.{point_of}
use Rattle.tetra.specs.Demand2.{decodes}
use Rattle.tetra.specs.Points.{P}
use Rattle.search.specs.Parity.{both_parities}
use Rattle.search.specs.Block.{winner_for, point_from}
use Rattle.nearest.specs.Nearest.{doubles, Finds}
use Rattle.nearest.proofs.Nearest.{nearest, nearest_full}
use Rattle.nearest.specs.Laws.OnPoint.{on_target, alone}
use Rattle.nearest.specs.OnPoint.{origin, odd, even, Meets}

-- ---- the search finds a point that has a word at the point itself, whatever parities it goes through
pub on_a_point : (y : List ℤ) (W : HasWord y) (ps : List ℕ) → ((q : ℕ) → Memᴰ q ps → q < 2) → Memᴰ W.point.p ps → (n : ℕ)
    → Finds ps n (doubles y) y
on_a_point y W ps PS m = nearest ps PS (doubles y) (on_target y W) y W m (λ z Z i d. alone y W z Z d)

pub on_a_point_full : (y : List ℤ) → HasWord y → (n : ℕ) → Finds both_parities n (doubles y) y
on_a_point_full y W = nearest_full (doubles y) (on_target y W) y W (alone y W)

-- so at the origin, at an odd point (P2 of document 01) and at an even one (P5)
found_at : (w : ℕ) (y : List ℤ) → point_of w ≡ y → (n : ℕ) → Finds both_parities n (doubles y) y
found_at w y e n = subst (λ (l : List ℤ). Finds both_parities n (doubles l) l) e (on_a_point_full (point_of w) (decodes w) n)

pub at-origin : (n : ℕ) → Finds both_parities n (doubles origin) origin
at-origin = found_at 0 origin P.0

pub at-odd : (n : ℕ) → Finds both_parities n (doubles odd) odd
at-odd = found_at 1 odd P.1

pub at-even : (n : ℕ) → Finds both_parities n (doubles even) even
at-even = found_at 0x3800 even P.4

-- ---- the search meets demand 3 at every setting
pub search_meets : (n : ℕ) → Meets (λ t. point_from (winner_for both_parities n t))
search_meets n t D y W H = (nearest_full t D y W H n).point
