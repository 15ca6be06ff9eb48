-- `solve::parity_of` meets its contract. The invariant: the sum of the first j has their parity, and each adds less than 256. Assumes nothing.
use Prim.Native.Nat.{◌≤◌, ◌*◌, ◌%◌}
use mathlib.Core.Path.{◌≡◌}
use Rattle.solve.specs.Inner.Flat.{par_in}
use Rattle.solve.proofs.parity_of.Given as goal

abbrev pub invariant-loop-j : goal.invariant-loop-j
invariant-loop-j l = (l.j ≤ 8) × ((l.par ≤ 256 * l.j) × (l.par % 2 ≡ par_in l.rows l.at.at l.j))
