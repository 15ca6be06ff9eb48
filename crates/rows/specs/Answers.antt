-- What `class_index` and `mixed_index` answer, said without a search: which row a vector is, and that no second answer fits.
-- Assumes nothing.
use Rattle.std.specs.Prelude.{◌≡◌, refl, List, [], ◌∷◌, ℕ, ◌+◌, ◌*◌, ◌/◌, ◌%◌, ◌<◌, T, length, Option, None}
use Rattle.std.proofs.Common.{◌∙◌, ap, ap₂, sym, subst, arith}
use Rattle.std.proofs.Math.Decide.{dec_lt}
use Rattle.rank.specs.Vector.{class, in_class, in_middle}
use Rattle.rows.specs.Table.{row_ranks, IsRow, At, seat_at, class_index_of}
use Rattle.rows.specs.Table.{middle_rows, middle_class, middle_row, IsMiddleRow, middle_seat, mixed_index_of, seated_number, values_of}
use Rattle.rows.specs.Laws.Rule.{row-class, row_in}
use Rattle.rows.specs.Laws.Places.{number-class, number_index, number-back, position_of-row, position_none, row-or-none, is_row}
use Rattle.rows.specs.Laws.Middle.{Names, named, used_small, used_row, middle-lt, middle_row-class}
use Rattle.rows.specs.Laws.Middle.{middle_row_in, middle-at, middle-or-none}
use Rattle.rows.specs.Laws.Seats.{number_zero, same_values, not_both, seat-same, seat-row, seat-none, middle_used, middle_unused}
use Rattle.rows.specs.declared.Seat.{Seat}

-- ---- class_index
-- the answer for v: the class and the index of the row that v is, and no value where v is no row
pub record ClassIndex (v : List ℕ) (r : Option Seat) : Type 0 where
  pub number : seated_number r ≡ 0
  pub row : (c i : ℕ) → c < 2 → i < 2048 → row_ranks (2048 * c + i) ≡ v → values_of r ≡ c ∷ i ∷ []
  pub none : (IsRow v → ⊥) → values_of r ≡ []

-- a row's own class and index
pub class_index-row : (c i : ℕ) → c < 2 → i < 2048 → class_index_of (row_ranks (2048 * c + i)) ≡ At c i
unfolding class_index_of
class_index-row c i hc hi =
    let p : 2048 * c + i < 4096 = omega arith in
    ap seat_at (position_of-row (2048 * c + i) p) ∙ seat-row (2048 * c + i) p
    ∙ ap₂ {C = Option Seat} (λ a b. At a b) (number-class c i hi) (number_index c i hi)

-- the same by the row's number
class_index-at : (v : List ℕ) (p : ℕ) → p < 4096 → row_ranks p ≡ v → class_index_of v ≡ At (p / 2048) (p % 2048)
class_index-at v p h q =
    ap class_index_of (sym (ap row_ranks (number-back p) ∙ q)) ∙ class_index-row (p / 2048) (p % 2048) (omega arith) (omega arith)

class_index-none : (v : List ℕ) → length v ≡ 8 → (IsRow v → ⊥) → class_index_of v ≡ None
unfolding class_index_of
class_index-none v e n = ap seat_at (position_none v e n) ∙ seat-none 4096 (omega arith)

pub class_index : (v : List ℕ) → length v ≡ 8 → ClassIndex v (class_index_of v)
class_index v e = record {
  number = number_zero (class_index_of v);
  row = λ c i hc hi q. ap (λ (u : List ℕ). values_of (class_index_of u)) (sym q) ∙ ap values_of (class_index-row c i hc hi);
  none = λ n. ap values_of (class_index-none v e n);
}

-- no second answer fits
pub class_index_only : (v : List ℕ) → length v ≡ 8 → (r : Option Seat) → ClassIndex v r → r ≡ class_index_of v
class_index_only v e r a = same_values r (class_index_of v) (go (row-or-none v e))
  where
    go : Dec (IsRow v) → values_of r ≡ values_of (class_index_of v)
    go (yes (p, h, q)) =
        a.row (p / 2048) (p % 2048) (omega arith) (omega arith) (ap row_ranks (number-back p) ∙ q)
        ∙ sym (ap values_of (class_index-at v p h q))
    go (no n) = a.none n ∙ sym (ap values_of (class_index-none v e n))

-- by the bound alone, with no table: there is an answer exactly where v meets its class's bound, and its class is that of v
pub class_index_in : (v : List ℕ) → length v ≡ 8 → T (in_class (class v) v)
    → (i : ℕ) × (i < 2048) × (row_ranks (2048 * class v + i) ≡ v) × (class_index_of v ≡ At (class v) i)
class_index_in v e t =
    let r = is_row (class v) v e refl t in
    (r.0, r.1, r.2, ap class_index_of (sym r.2) ∙ class_index-row (class v) r.0 (omega arith) r.1)

pub class_index_out : (v : List ℕ) → length v ≡ 8 → (T (in_class (class v) v) → ⊥) → class_index_of v ≡ None
class_index_out v e n =
    class_index-none v e (λ r. n (subst (λ (u : List ℕ). T (in_class (class u) u)) r.2 (row_in r.0 r.1)))

-- the row that an answer names is the vector
pub class_index-back : (v : List ℕ) → length v ≡ 8 → (c i : ℕ) → class_index_of v ≡ At c i
    → (c < 2) × (i < 2048) × (row_ranks (2048 * c + i) ≡ v)
class_index-back v e c i a = go (row-or-none v e)
  where
    go : Dec (IsRow v) → (c < 2) × (i < 2048) × (row_ranks (2048 * c + i) ≡ v)
    go (yes (p, h, q)) =
        let r : At (p / 2048) (p % 2048) ≡ At c i = sym (class_index-at v p h q) ∙ a in
        let (x, y) = seat-same r in
        let z : 2048 * c + i ≡ p = omega (arith, x, y) in
        (omega (arith, x), omega (arith, y), ap row_ranks z ∙ q)
    go (no n) = absurd (not_both c i (sym (class_index-none v e n) ∙ a))

-- ---- mixed_index
-- the answer for v: the class and the middle's index of the row that v is, and no value where v is none of the middle's rows
pub record MixedIndex (v : List ℕ) (r : Option Seat) : Type 0 where
  pub number : seated_number r ≡ 0
  pub row : (i : ℕ) → i < 2048 → row_ranks (middle_row i) ≡ v → values_of r ≡ middle_class i ∷ i ∷ []
  pub none : (IsMiddleRow v → ⊥) → values_of r ≡ []

-- the class and the index of the middle's row
pub mixed_index-row : (i : ℕ) → i < 2048 → mixed_index_of (row_ranks (middle_row i)) ≡ At (middle_class i) i
unfolding mixed_index_of
mixed_index-row i h = let n = named i h in go n.0 n.1 n.2
  where
    go : (c j : ℕ) → Names i c j → mixed_index_of (row_ranks (middle_row i)) ≡ At (middle_class i) i
    go c j n =
        ap (λ (p : ℕ). mixed_index_of (row_ranks p)) n.row
        ∙ ap middle_seat (class_index-row c j n.two (used_small c j n.used))
        ∙ middle_used c j n.used
        ∙ ap₂ {C = Option Seat} (λ a b. At a b) (sym n.class_is) (sym n.index)

mixed_index-none : (v : List ℕ) → length v ≡ 8 → (IsMiddleRow v → ⊥) → mixed_index_of v ≡ None
unfolding mixed_index_of middle_seat
mixed_index-none v e n = go (row-or-none v e)
  where
    unused : (p : ℕ) → p < 4096 → row_ranks p ≡ v → Dec (p % 2048 < middle_rows (p / 2048)) → mixed_index_of v ≡ None
    unused p h q (yes u) = absurd (n (used_row v p h q u))
    unused p h q (no u) = ap middle_seat (class_index-at v p h q) ∙ middle_unused (p / 2048) (p % 2048) (omega arith)

    go : Dec (IsRow v) → mixed_index_of v ≡ None
    go (yes (p, h, q)) = unused p h q (dec_lt (p % 2048) (middle_rows (p / 2048)))
    go (no k) = ap middle_seat (class_index-none v e k)

pub mixed_index : (v : List ℕ) → length v ≡ 8 → MixedIndex v (mixed_index_of v)
mixed_index v e = record {
  number = number_zero (mixed_index_of v);
  row = λ i h q. ap (λ (u : List ℕ). values_of (mixed_index_of u)) (sym q) ∙ ap values_of (mixed_index-row i h);
  none = λ n. ap values_of (mixed_index-none v e n);
}

-- no second answer fits
pub mixed_index_only : (v : List ℕ) → length v ≡ 8 → (r : Option Seat) → MixedIndex v r → r ≡ mixed_index_of v
mixed_index_only v e r a = same_values r (mixed_index_of v) (go (middle-or-none v e))
  where
    go : Dec (IsMiddleRow v) → values_of r ≡ values_of (mixed_index_of v)
    go (yes (i, h, q)) = a.row i h q ∙ sym ((mixed_index v e).row i h q)
    go (no n) = a.none n ∙ sym ((mixed_index v e).none n)

-- by the bound alone: there is an answer exactly where v meets the middle's bound, and its class is that of v
pub mixed_index_in : (v : List ℕ) → length v ≡ 8 → T (in_middle v)
    → (i : ℕ) × (i < 2048) × (row_ranks (middle_row i) ≡ v) × (mixed_index_of v ≡ At (class v) i)
mixed_index_in v e t =
    let (i, h, q) = middle-at v e t in
    let k = sym (middle_row-class i h) ∙ sym (row-class (middle_row i) (middle-lt i h)) ∙ ap class q in
    (i, h, q, ap mixed_index_of (sym q) ∙ mixed_index-row i h ∙ ap (λ (c : ℕ). At c i) k)

pub mixed_index_out : (v : List ℕ) → length v ≡ 8 → (T (in_middle v) → ⊥) → mixed_index_of v ≡ None
mixed_index_out v e n =
    mixed_index-none v e (λ r. n (subst (λ (u : List ℕ). T (in_middle u)) r.2 (middle_row_in r.0 r.1)))

-- the row that an answer names is the vector
pub mixed_index-back : (v : List ℕ) → length v ≡ 8 → (c i : ℕ) → mixed_index_of v ≡ At c i
    → (i < 2048) × (middle_class i ≡ c) × (row_ranks (middle_row i) ≡ v)
mixed_index-back v e c i a = go (middle-or-none v e)
  where
    go : Dec (IsMiddleRow v) → (i < 2048) × (middle_class i ≡ c) × (row_ranks (middle_row i) ≡ v)
    go (yes (j, h, q)) =
        let r : At (middle_class j) j ≡ At c i = sym (mixed_index-row j h) ∙ ap mixed_index_of q ∙ a in
        let (x, y) = seat-same r in
        (omega (arith, y), ap middle_class (sym y) ∙ x, ap (λ (n : ℕ). row_ranks (middle_row n)) (sym y) ∙ q)
    go (no n) = absurd (not_both c i (sym (mixed_index-none v e n) ∙ a))
