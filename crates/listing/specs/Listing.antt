-- The rank vectors of cost below 128, packed, in the order of a depth-first listing: coordinate by coordinate, eight deep; a branch ends
-- once its cost, each coordinate still open counted as 1, reaches 128. Assumes nothing.
use Rattle.std.specs.Prelude.{cond, List, [], ◌∷◌, ◌++◌, ℕ, zero, suc, ◌+◌, ◌*◌, ◌-◌, ◌^◌, ltb}
use Rattle.rank.specs.Vector.{sq}

-- the cost at which a branch ends
abbrev pub cap : ℕ
cap = 128

-- what f lists for the ranks r, r + 1, .., n of them at most, up to the first that takes the cost from `base` to the cap
unfoldable pub grow : (ℕ → List ℕ) → ℕ → ℕ → ℕ → List ℕ
grow f base r zero = []
grow f base r (suc n) = cond (ltb (base + sq r) cap) (f r ++ grow f base (r + 1) n) []

-- the vectors that begin with the ranks packed in `row`, whose cost is `spent`, the last `left` coordinates still open.
-- No rank of 6 or more stays under the cap, so six are tried at each coordinate.
unfoldable pub under : ℕ → ℕ → ℕ → List ℕ
under zero row spent = row ∷ []
under (suc left) row spent =
    grow (λ (r : ℕ). under left (row + r * 2 ^ (4 * (7 - left))) (spent + sq r)) (spent + left) 0 6

unfoldable pub listing : List ℕ
listing = under 8 0 0
