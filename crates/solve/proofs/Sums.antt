-- The cost of a base holds the weight of each of its coordinates, and of any two. Assumes nothing.
use mathlib.Core.Path.{◌≡◌, ◌∙◌, sym}
use mathlib.Core.List.{List}
use mathlib.Core.Logic.{◌⊎◌, ⊎_elim}
use Prim.Native.Nat.{ℕ, zero, suc, ◌+◌, ◌<◌, ◌≤◌}
use native.Mathlib.Nat.{eq-or-lt_of_le}
use native.Mathlib.Omega.{arith}
use lib.ListN.{get_or}
use Rattle.search.specs.Base.{slot_of}
use Rattle.coord.specs.declared.Rows.{Rows}
use Rattle.solve.specs.Inner.Flat.{spot, base_in}

split : (j n : ℕ) → j < suc n → (j ≡ n) ⊎ (j < n)
split j n h = eq-or-lt_of_le (omega arith)

module _ (rows : Rows) (at : List ℕ) (j0 fix : ℕ) where
  abbrev part : ℕ → ℕ
  part j = get_or rows.weight (spot at j (slot_of j0 fix j)) 0

  pub one : (n j : ℕ) → j < n → part j ≤ (base_in rows at j0 fix n).cost
  unfolding base_in
  one zero j h = omega arith
  one (suc n) j h = ⊎_elim (λ q. rw q (omega arith)) (λ l. omega (arith, one n j l)) (split j n h)

  pub two : (n j k : ℕ) → j < n → k < n → (j ≡ k → ⊥) → part j + part k ≤ (base_in rows at j0 fix n).cost
  unfolding base_in
  two zero j k h g d = omega arith
  two (suc n) j k h g d =
      ⊎_elim
      (λ q. ⊎_elim (λ r. absurd (d (q ∙ sym r))) (λ l. rw q (omega (arith, one n k l))) (split k n g))
      (λ (m : j < n). ⊎_elim (λ r. rw r (omega (arith, one n j m))) (λ l. omega (arith, two n j k m l d)) (split k n g))
      (split j n h)
