-- The candidate rule for one pattern and one parity of the sum of k: `solve` of encoder.rs. Definitions only.
-- The idea: a base that has no row lies too far out. So vectors beside it are tried, two coordinates stepped
-- at a time so that the class stays, and then the same about targets drawn toward zero, whose vectors are
-- cheaper. Kept is the nearest one within the bound, by its distance to the target itself.
use Rattle.std.specs.Prelude.{true, false, cond, ◌&&◌, List, ℕ, zero, suc, ◌+◌, ◌-◌, ◌*◌, ◌/◌, ◌%◌, ◌^◌, ℤ, get_or, eqb, Float}
use Rattle.std.specs.Int.Bits.{bit_and, bit_or}
use Rattle.std.specs.Float.{nan, inf, binary64}
use Rattle.std.specs.Float.Ieee.{add, sub, lt, le}
use Rattle.search.specs.declared.Coord.{Coord}
use Rattle.search.specs.declared.Candidate.{Candidate}
use Rattle.search.specs.declared.Best.{Best}
use Rattle.search.specs.declared.Top.{Top}
use Rattle.search.specs.declared.Closed.{Closed}
use Rattle.search.specs.declared.Found.{Found}
use Rattle.search.specs.declared.Found.TheVariants.{At, Nothing}
use Rattle.search.specs.Record.{coord_at, row}
use Rattle.search.specs.Bound.{holds}
use Rattle.search.specs.Base.{slot_of, toward_of, par_to, now_to}

abbrev pub infinity : Float
infinity = inf false

-- ---- the two largest regrets among the first n + 2, ties to the lower index
unfoldable pub top_to : List Coord → ℕ → Top
top_to e zero = cond (lt (coord_at e 0).regret (coord_at e 1).regret) (record { j0 = 1; j1 = 0 }) (record { j0 = 0; j1 = 1 })
top_to e (suc n) =
    cond (lt (coord_at e (top_to e n).j0).regret (coord_at e (n + 2)).regret) (record { j0 = n + 2; j1 = (top_to e n).j0 })
    (cond (lt (coord_at e (top_to e n).j1).regret (coord_at e (n + 2)).regret) (record { j0 = (top_to e n).j0; j1 = n + 2 }) (top_to e n))

-- ---- the base: all at their rounding, the least decided one a step toward its target where the parity is wrong
abbrev pub fix_of : List Coord → ℕ → ℕ → ℕ
fix_of e want j0 = cond (eqb (par_to e 8) want) 2 (toward_of (coord_at e j0).dir)

-- a member that is strictly nearer replaces the best
abbrev pub kept_base : Closed → Candidate → Best → Best
kept_base bound n best =
    cond (holds bound n.cost n.key && lt n.dist best.d) (record { d = n.dist; key = n.key; met = true }) best

-- ---- the sixteen paired steps: coordinate j, whose record is a, from slot f to fj; coordinate j2, whose record is b, from slot g to f2. Distance,
-- cost and row after one are the Rust's d2, c2 and k2
abbrev pub moved_d : Coord → Coord → Float → ℕ → ℕ → ℕ → ℕ → Float
moved_d a b d f fj g f2 =
    add binary64 (add binary64 (sub binary64 (sub binary64 d (get_or a.d f nan)) (get_or b.d g nan)) (get_or a.d fj nan)) (get_or b.d f2 nan)

abbrev pub moved_c : Coord → Coord → ℕ → ℕ → ℕ → ℕ → ℕ → ℕ
moved_c a b c f fj g f2 = c - get_or a.w f 0 - get_or b.w g 0 + get_or a.w fj 0 + get_or b.w f2 0

unfoldable pub key_moved : ℕ → ℕ → ℕ → ℕ → ℕ → ℕ
key_moved key j x j2 y =
    bit_or
    (bit_or (bit_and key (2 ^ 32 - 1 - bit_or (15 * 2 ^ (4 * j) % 2 ^ 32) (15 * 2 ^ (4 * j2) % 2 ^ 32))) (x * 2 ^ (4 * j) % 2 ^ 32))
    (y * 2 ^ (4 * j2) % 2 ^ 32)

-- passed over where it is no nearer; taken where it is a member
unfoldable pub step_of : Coord → Coord → Closed → Candidate → Best → ℕ → ℕ → ℕ → ℕ → ℕ → ℕ → Best
step_of a b bound n best j f fj j2 g f2 =
    cond (le best.d (moved_d a b n.dist f fj g f2)) best
    (cond (holds bound (moved_c a b n.cost f fj g f2) (key_moved n.key j (get_or a.rank fj 0) j2 (get_or b.rank f2 0)))
    (record { d = moved_d a b n.dist f fj g f2; key = key_moved n.key j (get_or a.rank fj 0) j2 (get_or b.rank f2 0); met = true })
    best)

-- the second coordinate of a pair: the least decided one, or the next where that is the first
abbrev pub other_of : ℕ → ℕ → ℕ → ℕ
other_of j j0 j1 = cond (eqb j j0) j1 j0

-- the slot f2 to which the second coordinate steps: toward its target, but back to its rounding where it was repaired
abbrev pub second_of : ℕ → ℤ → ℕ
second_of g dir = cond (eqb g 2) (toward_of dir) 2

-- step i: coordinate i / 2 down where i is even, up where it is odd
abbrev pub move_at : List Coord → Top → ℕ → Closed → Candidate → Best → ℕ → Best
move_at e top fix bound n best i =
    step_of (coord_at e (i / 2)) (coord_at e (other_of (i / 2) top.j0 top.j1)) bound n best
    (i / 2) (slot_of top.j0 fix (i / 2)) (slot_of top.j0 fix (i / 2) + 2 * (i % 2) - 1)
    (other_of (i / 2) top.j0 top.j1) (slot_of top.j0 fix (other_of (i / 2) top.j0 top.j1))
    (second_of (slot_of top.j0 fix (other_of (i / 2) top.j0 top.j1)) (coord_at e (other_of (i / 2) top.j0 top.j1)).dir)

unfoldable pub moves_to : List Coord → Top → ℕ → Closed → Candidate → Best → ℕ → Best
moves_to e top fix bound n start zero = start
moves_to e top fix bound n start (suc i) = move_at e top fix bound n (moves_to e top fix bound n start i) i

-- ---- one shrink: the base, then the sixteen paired steps
abbrev pub layer_at : List Coord → Top → ℕ → Closed → Best → Best
layer_at e top fix bound best = moves_to e top fix bound (now_to e top.j0 fix 8) (kept_base bound (now_to e top.j0 fix 8) best) 16

abbrev pub layer_of : List Coord → ℕ → Closed → Best → Best
layer_of e want bound best = layer_at e (top_to e 6) (fix_of e want (top_to e 6).j0) bound best

abbrev pub unmet : Best
unmet = record { d = infinity; key = 0; met = false }

abbrev pub first_base : List Coord → ℕ → Closed → Best
first_base e want bound = kept_base bound (now_to e (top_to e 6).j0 (fix_of e want (top_to e 6).j0) 8) unmet

-- the shrinks 0, 1, .., n in order
unfoldable pub layers_to : List Float → ℕ → ℕ → ℕ → Closed → ℕ → Best
layers_to ts p c want bound zero = layer_of (row ts p c 0) want bound unmet
layers_to ts p c want bound (suc n) = layer_of (row ts p c (suc n)) want bound (layers_to ts p c want bound n)

-- n shrinks, of which the first is always done; a member base at the first ends the search
unfoldable pub solve : List Float → ℕ → ℕ → ℕ → Closed → ℕ → Best
solve ts p c want bound n =
    cond (first_base (row ts p c 0) want bound).met (first_base (row ts p c 0) want bound) (layers_to ts p c want bound (n - 1))

-- the answer: a distance with its row, or that no member was met
abbrev pub found_of : Best → Found
found_of b = cond b.met (At b.d b.key) Nothing
