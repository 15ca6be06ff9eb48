-- What `under` lists, taken apart as `under_cap` goes over the ranks of the first open coordinate. Assumes nothing.
use mathlib.Core.Path.{◌≡◌, ap}
use mathlib.Core.List.{List, [], ◌∷◌, ◌++◌}
use Prim.Native.Nat.{ℕ, suc, ◌+◌, ◌*◌, ◌-◌, ◌^◌, ◌<◌, ◌≤◌}
use native.Mathlib.Omega.{arith}
use Rattle.rank.specs.Vector.{sq}
use Rattle.listing.specs.Listing.{cap, grow, under}
use Rattle.listing.specs.Laws.Growth.{below_six, grow-more, grow_stop}

-- no coordinate is open
pub under_none : (left row spent : ℕ) → left ≡ 0 → under left row spent ≡ row ∷ []
unfolding under
under_none left row spent e = rw e

-- what is listed with the rank k, with `rest` coordinates open after this one
abbrev rank_at_lem : ℕ → ℕ → ℕ → ℕ → List ℕ
rank_at_lem rest row spent k = under rest (row + k * 2 ^ (4 * (7 - rest))) (spent + sq k)

-- what is left to list from the rank r on
unfoldable pub rest_of : ℕ → ℕ → ℕ → ℕ → List ℕ
rest_of rest row spent r = grow (rank_at_lem rest row spent) (spent + rest) r (6 - r)

pub rest_all : (left row spent : ℕ) → 1 ≤ left → under left row spent ≡ rest_of (left - 1) row spent 0
unfolding under rest_of
rest_all left row spent h =
    let e : left ≡ suc (left - 1) = omega arith in
    ap (λ (k : ℕ). under k row spent) e

module _ (rest row spent r : ℕ) where
  -- a turn: what the call lists, and then what is left
  pub rest_more : (next cost : ℕ) → next ≡ row + r * 2 ^ (4 * (7 - rest)) → cost ≡ spent + sq r → cost + rest < cap
      → rest_of rest row spent r ≡ under rest next cost ++ rest_of rest row spent (r + 1)
  unfolding rest_of
  rest_more next cost p q h =
      let six : r < 6 = below_six r (spent + rest) (omega arith) in
      let e : 6 - r ≡ suc (6 - (r + 1)) = omega arith in
      rw (p, q, e) (grow-more (rank_at_lem rest row spent) (spent + rest) r (6 - (r + 1)) (omega arith))

  -- the end: nothing is left
  pub rest_none : cap ≤ spent + sq r + rest → rest_of rest row spent r ≡ []
  unfolding rest_of
  rest_none h = grow_stop (rank_at_lem rest row spent) (spent + rest) r (6 - r) (omega arith)
