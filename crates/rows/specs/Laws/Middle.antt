-- The middle section's rows: its index i, 0 to 2047, names row j of class c, where i is j in class 0 and 1240 + j in class 1.
-- Assumes nothing.
use Rattle.std.specs.Prelude.{◌≡◌, refl, Bool, true, false, cond, List, ℕ, zero, suc, ◌+◌, ◌*◌, ◌-◌, ◌/◌, ◌%◌, ◌<◌, ◌≤◌, T, ltb, length}
use Rattle.std.proofs.Common.{◌∙◌, ap, sym, subst, arith, lt-ltb, le-ltb, ltb-true}
use Rattle.std.proofs.Math.Decide.{dec_lt}
use Rattle.laws.specs.Laws.Tests.{is_true, true_is}
use Rattle.rank.specs.Vector.{class, in_middle}
use Rattle.rank.specs.Laws.Vector.{middle_class_lem}
use Rattle.rows.specs.Table.{row_ranks, position_of, middle_rows, middle_class, middle_row, IsMiddleRow}
use Rattle.rows.specs.Laws.Rule.{row-middle}
use Rattle.rows.specs.Laws.Places.{number-class, number_index, number-back, row_at_position, position_iff, position_middle}

-- index i names row j of class c
pub record Names (i c j : ℕ) : Type 0 where
  pub two : c < 2
  pub used : j < middle_rows c
  pub index : i ≡ j + 1240 * c
  pub row : middle_row i ≡ 2048 * c + j
  pub class_is : middle_class i ≡ c

in_zero : (i : ℕ) → i < 1240 → Names i 0 i
unfolding middle_row middle_class
in_zero i h = record {
  two = omega arith;
  used = h;
  index = omega arith;
  row = ap (λ (b : Bool). cond b i (2048 + (i - 1240))) (lt-ltb i 1240 h) ∙ omega arith;
  class_is = ap (λ (b : Bool). cond b 0 1) (lt-ltb i 1240 h);
}

in_one : (i : ℕ) → 1240 ≤ i → i < 2048 → Names i 1 (i - 1240)
unfolding middle_row middle_class
in_one i l h = record {
  two = omega arith;
  used = omega arith;
  index = omega arith;
  row = ap (λ (b : Bool). cond b i (2048 + (i - 1240))) (le-ltb i 1240 l) ∙ omega arith;
  class_is = ap (λ (b : Bool). cond b 0 1) (le-ltb i 1240 l);
}

-- each index names a row, and each row that the middle uses has an index
pub named : (i : ℕ) → i < 2048 → (c : ℕ) × (j : ℕ) × Names i c j
named i h = go (dec_lt i 1240)
  where
    go : Dec (i < 1240) → (c : ℕ) × (j : ℕ) × Names i c j
    go (yes l) = (0, i, in_zero i l)
    go (no l) = (1, i - 1240, in_one i (omega arith) h)

has_index : (c j : ℕ) → c < 2 → j < middle_rows c → Names (j + 1240 * c) c j
has_index zero j hc h = subst (λ (n : ℕ). Names n 0 j) (z j) (in_zero j h)
  where
    z : (j : ℕ) → j ≡ j + 1240 * 0
    z j = omega arith
has_index (suc zero) j hc h = subst (λ (n : ℕ). Names (j + 1240) 1 n) (z j) (in_one (j + 1240) (omega arith) (omega arith))
  where
    z : (j : ℕ) → j + 1240 - 1240 ≡ j
    z j = omega arith
has_index (suc (suc c)) j hc h = absurd (omega arith)

pub used_small : (c j : ℕ) → j < middle_rows c → j < 2048
used_small zero j h = omega arith
used_small (suc c) j h = omega arith

index_small : (c j : ℕ) → c < 2 → j < middle_rows c → j + 1240 * c < 2048
index_small zero j hc h = omega arith
index_small (suc zero) j hc h = omega arith
index_small (suc (suc c)) j hc h = absurd (omega arith)

-- ---- the row of an index
pub middle-lt : (i : ℕ) → i < 2048 → middle_row i < 4096
middle-lt i h = let n = named i h in omega (arith, n.2.row, n.2.two, used_small n.0 n.1 n.2.used)

pub middle_row-class : (i : ℕ) → i < 2048 → middle_row i / 2048 ≡ middle_class i
middle_row-class i h =
    let n = named i h in
    ap (λ (p : ℕ). p / 2048) n.2.row ∙ number-class n.0 n.1 (used_small n.0 n.1 n.2.used) ∙ sym n.2.class_is

-- the middle's rows meet the middle's bound
pub middle_row_in : (i : ℕ) → i < 2048 → T (in_middle (row_ranks (middle_row i)))
middle_row_in i h = let n = named i h in go n.0 n.1 n.2 (used_small n.0 n.1 n.2.used)
  where
    go : (c j : ℕ) → Names i c j → j < 2048 → T (in_middle (row_ranks (middle_row i)))
    go c j n s =
        true_is (in_middle (row_ranks (middle_row i)))
        (row-middle (middle_row i) (middle-lt i h)
        ∙ ap (λ (p : ℕ). ltb (p % 2048) (middle_rows (p / 2048))) n.row
        ∙ ap (λ (k : ℕ). ltb k (middle_rows ((2048 * c + j) / 2048))) (number_index c j s)
        ∙ ap (λ (k : ℕ). ltb j (middle_rows k)) (number-class c j s)
        ∙ lt-ltb j (middle_rows c) n.used)

-- a row that the middle uses is one of the middle's rows
pub used_row : (v : List ℕ) (p : ℕ) → p < 4096 → row_ranks p ≡ v → p % 2048 < middle_rows (p / 2048) → IsMiddleRow v
used_row v p h q u =
    let n = has_index (p / 2048) (p % 2048) (omega arith) u in
    (p % 2048 + 1240 * (p / 2048), index_small (p / 2048) (p % 2048) (omega arith) u, ap row_ranks (n.row ∙ number-back p) ∙ q)

-- and so is what meets the middle's bound
pub middle-at : (v : List ℕ) → length v ≡ 8 → T (in_middle v) → IsMiddleRow v
middle-at v e t =
    let h = (position_iff v e).0 (middle_class_lem (class v) v t) in
    let q = sym (position_middle v e h) ∙ is_true (in_middle v) t in
    used_row v (position_of v) h (row_at_position v e h) (ltb-true (position_of v % 2048) (middle_rows (position_of v / 2048)) q)

-- a vector is one of the middle's rows, or none
pub middle-or-none : (v : List ℕ) → length v ≡ 8 → Dec (IsMiddleRow v)
middle-or-none v e = go (in_middle v) refl
  where
    go : (b : Bool) → in_middle v ≡ b → Dec (IsMiddleRow v)
    go true t = yes (middle-at v e (true_is (in_middle v) t))
    go false f = no (λ r. subst T (ap in_middle r.2 ∙ f) (middle_row_in r.0 r.1))
