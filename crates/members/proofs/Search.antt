-- All parities: at an accepted target the point of the winner over any parities has a word, and coordinates of the winner's parity.
-- Assumes nothing.
use Rattle.std.specs.Prelude.{ℕ, ◌<◌, length, Float}
use mathlib.Core.List.{List, Memᴰ}
use Rattle.tetra.specs.Lattice.{HasWord}
use Rattle.tetra.specs.Why.{OfParity}
use Rattle.search.specs.Block.{point_from, winner_for}
use Rattle.members.specs.Accepted.{Accepted}
use Rattle.members.proofs.Point.{winner_word, winner-parity}
use Rattle.members.specs.Laws.Search.{winner-good}

module _ (t : List Float) (A : Accepted t) (n : ℕ) where
  pub point-has_word : (ps : List ℕ) → 0 < length ps → ((q : ℕ) → Memᴰ q ps → q < 2) → HasWord (point_from (winner_for ps n t))
  point-has_word ps l i = let g = winner-good t A n ps l i in winner_word (winner_for ps n t) g.0 g.1

  pub point-parity : (ps : List ℕ) → 0 < length ps → ((q : ℕ) → Memᴰ q ps → q < 2)
      → OfParity (point_from (winner_for ps n t)) (winner_for ps n t).p
  point-parity ps l i = let g = winner-good t A n ps l i in winner-parity (winner_for ps n t) g.0 g.1
