-- Where a vector stands in the table: a row at its own number, and no other vector anywhere. Assumes nothing.
use Rattle.std.specs.Prelude.{◌≡◌, Bool, true, false, cond, ◌↔◌, List, ℕ, ◌+◌, ◌*◌, ◌/◌, ◌%◌, ◌<◌, ◌≤◌, T, ltb, length, get_or}
use Rattle.std.proofs.Common.{◌∙◌, ap, sym, subst, arith}
use Rattle.std.proofs.Math.Decide.{dec_lt}
use Rattle.laws.specs.Laws.Tests.{is_true}
use Rattle.laws.specs.Words.{seek}
use Rattle.laws.specs.Laws.Lists.{seek-holds, seek-first, seek-le}
use Rattle.rank.specs.Vector.{ranks_below, class, pack, unpack, before, in_class, in_middle, bound_cost, bound_cut}
use Rattle.rank.specs.Laws.Vector.{below_up, within_down, unpack-pack}
use Rattle.rows.specs.Rows.{rows}
use Rattle.rows.specs.Table.{row_ranks, IsRow, max_rank, find_of, position_of, middle_rows}
use Rattle.rows.specs.Laws.Rule.{count, row-class, row_within, row-middle, row_packed, row_ranks_lem}
use Rattle.rows.specs.Laws.Order.{unique}
use Rattle.rows.specs.Laws.Complete.{complete}

-- ---- row i of class c is row 2048 c + i
pub number-class : (c i : ℕ) → i < 2048 → (2048 * c + i) / 2048 ≡ c
number-class c i h = omega arith

pub number_index : (c i : ℕ) → i < 2048 → (2048 * c + i) % 2048 ≡ i
number_index c i h = omega arith

pub number-back : (p : ℕ) → 2048 * (p / 2048) + p % 2048 ≡ p
number-back p = omega arith

-- ---- a packed row
find-le : (w : ℕ) → find_of w ≤ 4096
unfolding find_of
find-le w = subst (λ (n : ℕ). seek w rows ≤ n) count (seek-le w rows)

find-row : (w : ℕ) → find_of w < 4096 → get_or rows (find_of w) 0 ≡ w
unfolding find_of
find-row w h = seek-holds w rows (omega (arith, count))

find_first : (w i : ℕ) → i < 4096 → get_or rows i 0 ≡ w → find_of w ≤ i
unfolding find_of
find_first w i h e = seek-first w rows i (omega (arith, count)) e

pub find_at : (w i : ℕ) → i < 4096 → get_or rows i 0 ≡ w → find_of w ≡ i
unfolding row_ranks
find_at w i h e =
    let l : find_of w < 4096 = omega (arith, find_first w i h e) in
    unique (find_of w) i l h (ap (unpack 8) (find-row w l ∙ sym e))

pub find_none : (w : ℕ) → ((i : ℕ) → i < 4096 → get_or rows i 0 ≡ w → ⊥) → find_of w ≡ 4096
find_none w n = go (dec_lt (find_of w) 4096)
  where
    go : Dec (find_of w < 4096) → find_of w ≡ 4096
    go (yes l) = absurd (n (find_of w) l (find-row w l))
    go (no l) = omega (arith, find-le w)

-- ---- a vector
pub position_small : (v : List ℕ) → ranks_below (max_rank + 1) v ≡ true → position_of v ≡ find_of (pack v)
unfolding position_of
position_small v e = ap (λ (b : Bool). cond b (find_of (pack v)) 4096) e

pub position_big : (v : List ℕ) → ranks_below (max_rank + 1) v ≡ false → position_of v ≡ 4096
unfolding position_of
position_big v e = ap (λ (b : Bool). cond b (find_of (pack v)) 4096) e

cond-lt : (b : Bool) (n : ℕ) → cond b n 4096 < 4096 → T b
cond-lt true n h = tt
cond-lt false n h = absurd (omega arith)

ranks_decided : (v : List ℕ) → position_of v < 4096 → T (ranks_below (max_rank + 1) v)
unfolding position_of
ranks_decided v h = cond-lt (ranks_below (max_rank + 1) v) (find_of (pack v)) h

-- the row of a number stands at that number
pub position_of-row : (p : ℕ) → p < 4096 → position_of (row_ranks p) ≡ p
position_of-row p h =
    position_small (row_ranks p) (is_true (ranks_below (max_rank + 1) (row_ranks p)) (row_ranks_lem p h))
    ∙ find_at (pack (row_ranks p)) p h (sym (row_packed p h))

position_is : (v : List ℕ) (p : ℕ) → p < 4096 → row_ranks p ≡ v → position_of v ≡ p
position_is v p h q = ap position_of (sym q) ∙ position_of-row p h

-- the row at a vector's place is the vector
pub row_at_position : (v : List ℕ) → length v ≡ 8 → position_of v < 4096 → row_ranks (position_of v) ≡ v
unfolding row_ranks
row_at_position v e h =
    let t = ranks_decided v h in
    let q = position_small v (is_true (ranks_below (max_rank + 1) v) t) in
    ap (λ (p : ℕ). unpack 8 (get_or rows p 0)) q
    ∙ ap (unpack 8) (find-row (pack v) (subst (λ (p : ℕ). p < 4096) q h))
    ∙ ap (λ (n : ℕ). unpack n (pack v)) (sym e)
    ∙ unpack-pack v (below_up (max_rank + 1) 16 (omega arith) v t)

position-le : (v : List ℕ) → position_of v ≤ 4096
unfolding position_of
position-le v = go (ranks_below (max_rank + 1) v)
  where
    go : (b : Bool) → cond b (find_of (pack v)) 4096 ≤ 4096
    go true = find-le (pack v)
    go false = omega arith

-- a vector is the row at its place, or no row
pub row-or-none : (v : List ℕ) → length v ≡ 8 → Dec (IsRow v)
row-or-none v e = go (dec_lt (position_of v) 4096)
  where
    go : Dec (position_of v < 4096) → Dec (IsRow v)
    go (yes l) = yes (position_of v, l, row_at_position v e l)
    go (no l) = no (λ r. l (subst (λ (p : ℕ). p < 4096) (sym (position_is v r.0 r.1 r.2)) r.1))

pub position_none : (v : List ℕ) → length v ≡ 8 → (IsRow v → ⊥) → position_of v ≡ 4096
position_none v e n = go (dec_lt (position_of v) 4096)
  where
    go : Dec (position_of v < 4096) → position_of v ≡ 4096
    go (yes l) = absurd (n (position_of v, l, row_at_position v e l))
    go (no l) = omega (arith, position-le v)

-- ---- a vector stands in the table exactly where it meets its class's bound, and then among the rows of its class
position_class : (v : List ℕ) → length v ≡ 8 → position_of v < 4096 → position_of v / 2048 ≡ class v
position_class v e h = sym (row-class (position_of v) h) ∙ ap class (row_at_position v e h)

pub position_iff : (v : List ℕ) → length v ≡ 8 → T (in_class (class v) v) ↔ (position_of v < 4096)
position_iff v e = (there, back)
  where
    there : T (in_class (class v) v) → position_of v < 4096
    there t =
        let r = complete v e t in
        subst (λ (p : ℕ). p < 4096) (sym (position_is v r.0 r.1 r.2)) r.1

    back : position_of v < 4096 → T (in_class (class v) v)
    back h =
        subst (λ (c : ℕ). T (in_class c v)) (position_class v e h)
        (subst (λ (u : List ℕ). T (in_class (position_of v / 2048) u)) (row_at_position v e h) (row_within (position_of v) h))

-- the same with the class and the number within it
pub is_row : (c : ℕ) (v : List ℕ) → length v ≡ 8 → class v ≡ c → T (in_class c v)
    → (i : ℕ) × (i < 2048) × (row_ranks (2048 * c + i) ≡ v)
is_row c v e k t =
    let h = (position_iff v e).0 (subst (λ (m : ℕ). T (in_class m v)) (sym k) t) in
    let d : position_of v / 2048 ≡ c = position_class v e h ∙ k in (
      position_of v % 2048,
      omega arith,
      ap (λ (n : ℕ). row_ranks (2048 * n + position_of v % 2048)) (sym d) ∙ ap row_ranks (number-back (position_of v)) ∙ row_at_position v e h,
    )

-- and it meets the middle's bound exactly where it stands among the middle's rows
pub position_middle : (v : List ℕ) → length v ≡ 8 → position_of v < 4096
    → in_middle v ≡ ltb (position_of v % 2048) (middle_rows (position_of v / 2048))
position_middle v e h = ap in_middle (sym (row_at_position v e h)) ∙ row-middle (position_of v) h

-- the rows of a class are its cheapest vectors: a vector that comes before a row of its class is a row
pub cheapest : (v : List ℕ) → length v ≡ 8 → (i : ℕ) → i < 4096 → class v ≡ i / 2048 → T (before v (row_ranks i)) → position_of v < 4096
cheapest v e i h k b =
    (position_iff v e).0
    (subst (λ (c : ℕ). T (in_class c v)) (sym k)
    (within_down (bound_cost (i / 2048)) (bound_cut (i / 2048)) v (row_ranks i) b (row_within i h)))
