-- `solve::parity_of` meets its contract. The invariant: the sum of the first j has their parity, and each adds less than 256. Assumes nothing.
use Prim.Native.Nat.{ℕ, suc, ◌+◌, ◌%◌}
use mathlib.Core.Path.{◌≡◌}
use mathlib.Core.List.{List}
use native.Mathlib.Numerals.{add-one}
use lib.ListN.{get_or}
use Rattle.coord.specs.declared.Rows.{Rows}
use Rattle.solve.specs.Inner.Flat.{par_in}
use borrow.Author.Rules.{rules}
use native.Mathlib.Omega.{arith}
use Rattle.solve.proofs.parity_of.Goals as goal

more : (rows : Rows) (at : List ℕ) (n x : ℕ) {w k : ℕ} → x % 2 ≡ par_in rows at n → w ≡ get_or rows.odd k 0 → k ≡ get_or at n 0 → (x + w) % 2 ≡ par_in rows at (suc n)
unfolding par_in
more rows at n x p q e = rw (← p, ← e, ← q) (omega arith)

pub loop-j-init : goal.loop-j-init
unfolding par_in
loop-j-init c = search rules

pub loop-j-preserved : goal.loop-j-preserved
loop-j-preserved c = let i = c.loop-j.invariant in
    (omega arith, (omega arith, rw add-one (more _ _ _ _ i.1.1 c.from-par.ensures c.place-k.ensures.0)))
