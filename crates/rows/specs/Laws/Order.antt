-- The rows stand in order: class, then cost, then ranks, coordinate 0 most significant. So no row stands twice. Assumes nothing.
use Rattle.std.specs.Prelude.{◌≡◌, refl, ◌⊎◌, ◌↔◌, Bool, List, T}
use Rattle.std.proofs.Common.{◌∙◌, ap, sym, subst, inl, inr, arith}
use Prim.Native.Nat.{ℕ, zero, suc, ◌+◌, ◌*◌, ◌/◌, ◌<◌, ◌≤◌, compare}
use Rattle.laws.specs.Words.{pick3}
use Rattle.laws.specs.Laws.Order.{pick3_out, pick3-trans, Compared, less, same, more, trichotomy}
use Rattle.laws.specs.Laws.Tables.{chain, chain_at}
use Rattle.rank.specs.Vector.{cost, class, unpack, before, within, bound_cost, bound_cut, middle_cost, middle_cut}
use Rattle.rank.specs.Laws.Vector.{within_down, within_self, before_not_after, before-trans}
use Rattle.rows.specs.Rows.{rows}
use Rattle.rows.specs.Table.{row_ranks}
use Rattle.rows.specs.Laws.Rule.{count, row-class}

-- the order of the whole table
abbrev pub in_order : List ℕ → List ℕ → Bool
in_order v w = pick3 (compare (class v) (class w)) (before v w)

follows : ℕ → ℕ → Bool
follows w x = in_order (unpack 8 w) (unpack 8 x)

-- the test: each row follows the one before it
tested : T (chain follows rows)
unfolding follows rows
tested = tt

ordered : (i j : ℕ) → i < j → j < 4096 → T (in_order (row_ranks i) (row_ranks j))
unfolding follows row_ranks
ordered i j h k =
    chain_at follows (λ x y z. trans (unpack 8 x) (unpack 8 y) (unpack 8 z)) rows tested i j h (omega (arith, count))
  where
    trans : (u v w : List ℕ) → T (in_order u v) → T (in_order v w) → T (in_order u w)
    trans u v w s t = pick3-trans (class u) (class v) (class w) (before u v) (before v w) (before u w) (before-trans u v w) s t

-- in each class a row comes before the next
pub rows_before : (i j : ℕ) → i < j → j < 4096 → i / 2048 ≡ j / 2048 → T (before (row_ranks i) (row_ranks j))
rows_before i j h k e = go (pick3_out (class (row_ranks i)) (class (row_ranks j)) (before (row_ranks i) (row_ranks j)) (ordered i j h k))
  where
    go : (class (row_ranks i) < class (row_ranks j)) ⊎ ((class (row_ranks i) ≡ class (row_ranks j)) × T (before (row_ranks i) (row_ranks j)))
        → T (before (row_ranks i) (row_ranks j))
    go (inl l) = absurd (omega (arith, row-class i (omega arith), row-class j k))
    go (inr t) = t.1

-- so one row comes no later than another exactly where its number is no greater
pub no_later : (i j : ℕ) → i < 4096 → j < 4096 → i / 2048 ≡ j / 2048
    → T (within (cost (row_ranks i)) (row_ranks i) (row_ranks j)) ↔ (j ≤ i)
no_later i j hi hj e = (there (trichotomy i j), back (trichotomy i j))
  where
    there : Compared i j → T (within (cost (row_ranks i)) (row_ranks i) (row_ranks j)) → j ≤ i
    there (less l) t = absurd (before_not_after (row_ranks i) (row_ranks j) (rows_before i j l hj e) t)
    there (same q) t = omega arith
    there (more l) t = omega arith

    back : Compared i j → j ≤ i → T (within (cost (row_ranks i)) (row_ranks i) (row_ranks j))
    back (less l) h = absurd (omega arith)
    back (same q) h = subst (λ (n : ℕ). T (within (cost (row_ranks i)) (row_ranks i) (row_ranks n))) q (within_self (row_ranks i))
    back (more l) h =
        within_down (cost (row_ranks i)) (row_ranks i) (row_ranks j) (row_ranks i) (rows_before j i l hi (sym e)) (within_self (row_ranks i))

pub unique : (i j : ℕ) → i < 4096 → j < 4096 → row_ranks i ≡ row_ranks j → i ≡ j
unique i j hi hj e = omega (arith, at_most i j hi hj e, at_most j i hj hi (sym e))
  where
    at_most : (i j : ℕ) → i < 4096 → j < 4096 → row_ranks i ≡ row_ranks j → j ≤ i
    at_most i j hi hj e =
        (no_later i j hi hj (sym (row-class i hi) ∙ ap class e ∙ row-class j hj)).0
        (subst (λ (v : List ℕ). T (within (cost (row_ranks i)) (row_ranks i) v)) e (within_self (row_ranks i)))

-- ---- the last row of each class is the class's cut, at the bound's cost; the middle's last row of class 0 is the middle's cut
pub last_row : (c : ℕ) → c < 2 → (row_ranks (2048 * c + 2047) ≡ bound_cut c) × (cost (row_ranks (2048 * c + 2047)) ≡ bound_cost c)
unfolding row_ranks rows
last_row zero h = (refl, refl)
last_row (suc zero) h = (refl, refl)
last_row (suc (suc c)) h = absurd (omega arith)

pub last-middle : (row_ranks 1239 ≡ middle_cut) × (cost (row_ranks 1239) ≡ middle_cost)
unfolding row_ranks rows
last-middle = (refl, refl)
