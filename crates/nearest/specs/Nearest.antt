-- DEMAND 3: nearest points. Take a target of 24 finite doubles. If a point that has a word is nearer to the target than every other point of
-- the Leech lattice, by more than 2 ^ -20 in exact squared distance, the search returns that point, at every setting of the shrinks.
--
-- What the words mean. The target of a call is x / s, 24 doubles (`quotients_of`, float/specs/Calls), which are finite where samples and scale
-- are accepted. `LatticePoint` and `HasWord` are those of document 01 (tetra/specs/Lattice): points are lists of 24 whole numbers in natural
-- order. `sq_dist y t` is the exact squared distance in units of 2 ^ -2148 (float/specs/Distance), and `margin` is 2 ^ -20 in those units.
-- `winner_for ps n t` is the answer of the search over the parities ps at setting n (search/specs/Block), `point_from` its point. The theorem is
-- `nearest` (proofs/Nearest), over the public call `nearest-at_scale` (demands/specs/Demand3). Assumes nothing.
use Rattle.std.specs.Prelude.{◌≡◌, ◌≢◌, true, ℕ, ◌+◌, ◌<◌, T, get_or, length, ℤ, Float}
use mathlib.Core.List.{List, map, Memᴰ}
use Rattle.std.specs.Float.{nan, binary64}
use Rattle.std.specs.Float.Ieee.{fits, of_int}
use Rattle.std.specs.Float.Ieee.Scale.{finite}
use Rattle.float.specs.Distance.{sq_dist, margin}
use Rattle.tetra.specs.Lattice.{LatticePoint}
use Rattle.search.specs.Block.{winner_for, point_from}

-- ---- the statement
-- a target: 24 numbers, each a double (`fits binary64`) and finite
pub record Target (t : List Float) : Type 0 where
  pub size : length t ≡ 24
  pub double : (j : ℕ) → j < 24 → T (fits binary64 (get_or t j nan))
  pub bounded : (j : ℕ) → j < 24 → T (finite (get_or t j nan))

-- a point as a target: its coordinates as doubles
abbrev pub doubles : List ℤ → List Float
doubles y = map (of_int binary64) y

-- y is nearer to t than every other lattice point whose parity is among ps, by more than 2 ^ -20
abbrev pub Nearest : List ℕ → List ℤ → List Float → Type 0
Nearest ps y t = (z : List ℤ) (Z : LatticePoint z) → Memᴰ Z.p ps → z ≢ y → sq_dist y t + margin < sq_dist z t

-- the search over the parities ps, at setting n, finds y at the target t
pub record Finds (ps : List ℕ) (n : ℕ) (t : List Float) (y : List ℤ) : Type 0 where
  pub found : (winner_for ps n t).found ≡ true
  pub point : point_from (winner_for ps n t) ≡ y
