-- `tetra::block` meets its contract. The invariant: the places before j are filled. Assumes nothing.
use Prim.Native.Nat.{ℕ, ◌+◌, ◌-◌}
use lib.IntN.{pos}
use lib.ListN.{get_or}
use Rattle.laws.specs.Laws.Filled.{Filled}
use Rattle.tetra.proofs.block.Given as goal

abbrev pub invariant-loop-j : goal.invariant-loop-j
invariant-loop-j l = Filled (pos 0) (λ (k : ℕ). get_or l.s (l.from + k) (pos 0)) 24 l.j l.out

abbrev pub decreases-loop-j : goal.decreases-loop-j
decreases-loop-j l = 24 - l.j
