-- The premises of demand 3 can be met, at every point that has a word: where the target is the point itself, its distance is 0 and every other
-- lattice point is at least 1 away. So the search finds each such point there, odd or even (proofs/OnPoint); and a coder that never answers an
-- odd point does not meet demand 3. Assumes nothing.
use Rattle.std.specs.Prelude.{◌≡◌, ◌≢◌, ℕ, ◌+◌, ◌<◌, get_or, ℤ, pos, negsuc, Float}
use Rattle.std.proofs.Common.{sym, ap, ◌∙◌, arith}
use mathlib.Core.List.{List, [], ◌∷◌}
use Rattle.laws.specs.Words.{tab}
use Rattle.rank.specs.Coord.{parity_of}
use Rattle.float.specs.Distance.{sq_dist, margin}
use Rattle.tetra.specs.Lattice.{LatticePoint, HasWord}
use Rattle.tetra.specs.Tetra.{point_of}
use Rattle.tetra.specs.Demand2.{decodes}
use Rattle.tetra.specs.Points.{at, all, point, P}
use Rattle.nearest.specs.Nearest.{Target, doubles}
use Rattle.nearest.specs.Laws.OnPoint.{on_target, alone}

-- ---- the origin, an odd point (P2 of document 01) and an even one (P5)
abbrev pub origin : List ℤ
origin = point (all (pos 0))

abbrev pub odd : List ℤ
odd = point (at (negsuc 2) (23 ∷ []) (all (pos 1)))

abbrev pub even : List ℤ
even = point (at (pos 4) (0 ∷ 1 ∷ []) (all (pos 0)))

-- ---- what demand 3 rejects
-- demand 3 of any way to answer targets with points
abbrev pub Meets : (List Float → List ℤ) → Type 0
Meets answer = (t : List Float) → Target t → (y : List ℤ) → HasWord y
    → ((z : List ℤ) → LatticePoint z → z ≢ y → sq_dist y t + margin < sq_dist z t) → answer t ≡ y

-- every way that meets it answers each point that has a word somewhere
pub all-answered : (answer : List Float → List ℤ) → Meets answer → (y : List ℤ) → HasWord y → answer (doubles y) ≡ y
all-answered answer d y W = d (doubles y) (on_target y W) y W (alone y W)

-- so none that searches parity 0 and fakes parity 1 does: none whose answers are all even
pub no_fake : (answer : List Float → List ℤ) → ((t : List Float) → parity_of (get_or (answer t) 0 (pos 0)) ≡ 0) → Meets answer → ⊥
unfolding tab
no_fake answer zero d =
    let one = ap (λ (l : List ℤ). parity_of (get_or l 0 (pos 0))) (all-answered answer d (point_of 1) (decodes 1) ∙ P.1) in
    none (sym one ∙ zero (doubles (point_of 1)))
  where
    none : ◌≡◌ {A = ℕ} 1 0 → ⊥
    none e = omega arith
