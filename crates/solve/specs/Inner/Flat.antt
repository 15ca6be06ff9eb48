-- The search of one pattern in the form that the code has: over the flat rows of a section (crate coord), with the places of the pattern's eight
-- records at one shrink in a list, and both steps of a coordinate in one turn. Laws proves it equal to the definition in crate search.
use Rattle.std.specs.Prelude.{true, false, cond, List, ℕ, zero, suc, ◌+◌, ◌-◌, ◌*◌, ◌/◌, ◌%◌, ◌^◌, min, get_or, eqb, Float}
use Rattle.std.specs.Int.Bits.{bit_or}
use Rattle.std.specs.Float.{nan, binary64}
use Rattle.std.specs.Float.Ieee.{add, sub, lt, le}
use Rattle.laws.specs.Words.{tab}
use Rattle.search.specs.declared.Candidate.{Candidate}
use Rattle.search.specs.declared.Best.{Best}
use Rattle.search.specs.declared.Top.{Top}
use Rattle.search.specs.declared.Closed.{Closed}
use Rattle.coord.specs.declared.Rows.{Rows}
use Rattle.float.specs.Value.{zero64}
use Rattle.search.specs.Record.{bit_at}
use Rattle.search.specs.Bound.{holds}
use Rattle.search.specs.Base.{slot_of, key_set, base_best}
use Rattle.search.specs.Solve.{key_moved, other_of, kept_base, unmet}
use Rattle.solve.specs.declared.Start.{Start}
use Rattle.solve.specs.declared.Pair.{Pair}

-- the four bytes of a number in the other order
abbrev pub swap_bytes : ℕ → ℕ
swap_bytes x = ((x % 256 * 256 + x / 256 % 256) * 256 + x / 256 / 256 % 256) * 256 + x / 256 / 256 / 256

-- ---- the places of the eight records of pattern c at shrink s
abbrev pub place_of : ℕ → ℕ → ℕ → ℕ
place_of c s j = 16 * s + 2 * j + bit_at c j

unfoldable pub places_of : ℕ → ℕ → List ℕ
places_of c s = tab (place_of c s) 8

-- the place of slot f of coordinate j
abbrev pub spot : List ℕ → ℕ → ℕ → ℕ
spot at j f = 5 * get_or at j 0 + f

-- ---- the two largest regrets among the first n + 2, ties to the lower index
abbrev pub regret_at : Rows → List ℕ → ℕ → Float
regret_at rows at j = get_or rows.regret (get_or at j 0) nan

unfoldable pub top_in : Rows → List ℕ → ℕ → Top
top_in rows at zero = cond (lt (regret_at rows at 0) (regret_at rows at 1)) (record { j0 = 1; j1 = 0 }) (record { j0 = 0; j1 = 1 })
top_in rows at (suc n) =
    cond (lt (regret_at rows at (top_in rows at n).j0) (regret_at rows at (n + 2))) (record { j0 = n + 2; j1 = (top_in rows at n).j0 })
    (cond (lt (regret_at rows at (top_in rows at n).j1) (regret_at rows at (n + 2))) (record { j0 = (top_in rows at n).j0; j1 = n + 2 })
    (top_in rows at n))

-- ---- the parity of the sum of k0 over the first n
unfoldable pub par_in : Rows → List ℕ → ℕ → ℕ
par_in rows at zero = 0
par_in rows at (suc n) = (par_in rows at n + get_or rows.odd (get_or at n 0) 0) % 2

-- the slot a step toward the target of coordinate j
abbrev pub toward_in : Rows → List ℕ → ℕ → ℕ
toward_in rows at j = cond (get_or rows.up (get_or at j 0) false) 3 1

-- the slot of the least decided coordinate: 2, but a step toward its target where the parity is wrong
abbrev pub fix_in : Rows → List ℕ → ℕ → ℕ → ℕ
fix_in rows at want j0 = cond (eqb (par_in rows at 8) want) 2 (toward_in rows at j0)

-- ---- cost, packed row and distance of the first n coordinates, at slot 2 but slot `fix` at j0
unfoldable pub base_in : Rows → List ℕ → ℕ → ℕ → ℕ → Candidate
base_in rows at j0 fix zero = record { cost = 0; key = 0; dist = zero64 }
base_in rows at j0 fix (suc n) =
    record {
      cost = (base_in rows at j0 fix n).cost + get_or rows.weight (spot at n (slot_of j0 fix n)) 0;
      key = bit_or (base_in rows at j0 fix n).key (get_or rows.rank (spot at n (slot_of j0 fix n)) 0 * 2 ^ (4 * n) % 2 ^ 32);
      dist = add binary64 (base_in rows at j0 fix n).dist (get_or rows.dist (spot at n (slot_of j0 fix n)) nan);
    }

-- ---- the paired steps: coordinate j from place a to a2, coordinate j2 from place b to b2
abbrev pub dist_in : Rows → Float → ℕ → ℕ → ℕ → ℕ → Float
dist_in rows d a a2 b b2 =
    add binary64 (add binary64 (sub binary64 (sub binary64 d (get_or rows.dist a nan)) (get_or rows.dist b nan)) (get_or rows.dist a2 nan)) (get_or rows.dist b2 nan)

abbrev pub cost_in : Rows → ℕ → ℕ → ℕ → ℕ → ℕ → ℕ
cost_in rows c a a2 b b2 = c - get_or rows.weight a 0 - get_or rows.weight b 0 + get_or rows.weight a2 0 + get_or rows.weight b2 0

-- one step, to a candidate at distance d
unfoldable pub step_in : Float → Rows → Closed → Candidate → Best → ℕ → ℕ → ℕ → ℕ → ℕ → ℕ → Best
step_in d rows bound n best j a a2 j2 b b2 =
    cond (le best.d d) best
    (cond (holds bound (cost_in rows n.cost a a2 b b2) (key_moved n.key j (get_or rows.rank a2 0) j2 (get_or rows.rank b2 0)))
    (record { d = d; key = key_moved n.key j (get_or rows.rank a2 0) j2 (get_or rows.rank b2 0); met = true })
    best)

-- both steps of coordinate j: down, then up
unfoldable pub turn_in : Rows → Closed → Candidate → Best → ℕ → ℕ → ℕ → ℕ → ℕ → Best
turn_in rows bound n best j a j2 b b2 =
    step_in (dist_in rows n.dist a (a + 1) b b2) rows bound n
    (step_in (dist_in rows n.dist a (a - 1) b b2) rows bound n best j a (a - 1) j2 b b2)
    j a (a + 1) j2 b b2

-- the slot to which the second coordinate steps: toward its target, but back to its rounding where it was repaired
abbrev pub second_in : Rows → List ℕ → ℕ → ℕ → ℕ
second_in rows at g j2 = cond (eqb g 2) (toward_in rows at j2) 2

abbrev pub paired_in : Rows → List ℕ → Top → ℕ → Closed → Candidate → Best → ℕ → ℕ → Best
paired_in rows at top fix bound n best j j2 =
    turn_in rows bound n best j (spot at j (slot_of top.j0 fix j))
    j2 (spot at j2 (slot_of top.j0 fix j2)) (spot at j2 (second_in rows at (slot_of top.j0 fix j2) j2))

-- the best after the steps of the first j coordinates
unfoldable pub moves_in : Rows → List ℕ → Top → ℕ → Closed → Candidate → Best → ℕ → Best
moves_in rows at top fix bound n start zero = start
moves_in rows at top fix bound n start (suc j) =
    paired_in rows at top fix bound n (moves_in rows at top fix bound n start j) j (other_of j top.j0 top.j1)

-- ---- one shrink: the two least decided coordinates, the slot of the first and the base; then the steps
abbrev pub start_from : Rows → List ℕ → ℕ → Top → Start
start_from rows at want t =
    record { top = t; fix = fix_in rows at want t.j0; n = base_in rows at t.j0 (fix_in rows at want t.j0) 8 }

unfoldable pub start_in : Rows → List ℕ → ℕ → Start
start_in rows at want = start_from rows at want (top_in rows at 6)

abbrev pub moved_from : Rows → List ℕ → Closed → Start → Best → Best
moved_from rows at bound s best = moves_in rows at s.top s.fix bound s.n best 8

unfoldable pub layer_in : Rows → List ℕ → ℕ → Closed → Best → Best
layer_in rows at want bound best =
    moved_from rows at bound (start_in rows at want)
    (kept_base bound (start_in rows at want).n best)

-- the shrinks 0, 1, .., n in order
unfoldable pub layers_in : Rows → ℕ → ℕ → Closed → ℕ → Best
layers_in rows c want bound zero = layer_in rows (places_of c 0) want bound unmet
layers_in rows c want bound (suc n) =
    layer_in rows (places_of c (n + 1)) want bound (layers_in rows c want bound n)

abbrev pub first_in : Rows → ℕ → ℕ → Closed → Best
first_in rows c want bound =
    kept_base bound (start_in rows (places_of c 0) want).n unmet

-- the first shrink and min n 8 - 1 more, so that 0 counts as 1 and all above 8 as 8; a member base at the first ends the search
unfoldable pub solve_in : Rows → ℕ → ℕ → Closed → ℕ → Best
solve_in rows c want bound n =
    cond (first_in rows c want bound).met (first_in rows c want bound)
    (layers_in rows c want bound (min n 8 - 1))

-- ---- the bases of both parities
-- coordinate j a step toward its target: the distance loses a term and gains a term
unfoldable pub stepped_in : Rows → List ℕ → Candidate → ℕ → Candidate
stepped_in rows at s j =
    record {
      cost = s.cost - get_or rows.weight (spot at j 2) 0 + get_or rows.weight (spot at j (toward_in rows at j)) 0;
      key = key_set s.key j (get_or rows.rank (spot at j (toward_in rows at j)) 0);
      dist = add binary64 (sub binary64 s.dist (get_or rows.dist (spot at j 2) nan)) (get_or rows.dist (spot at j (toward_in rows at j)) nan);
    }

-- the base for parity r: all coordinates at their rounding, and where that has the other parity, the least decided one a step toward its target
unfoldable pub base_for : Rows → List ℕ → ℕ → Candidate
base_for rows at r =
    cond (eqb (par_in rows at 8) r) (base_in rows at 0 2 8)
    (stepped_in rows at (base_in rows at 0 2 8) (top_in rows at 6).j0)

unfoldable pub pair_in : Rows → ℕ → Closed → Closed → Pair
pair_in rows c b0 b1 =
    record {
      even = base_best b0 (base_for rows (places_of c 0) 0);
      odd = base_best b1 (base_for rows (places_of c 0) 1);
    }
