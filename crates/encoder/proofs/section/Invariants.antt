-- The invariant of `encoder::section`: the places before j are filled. Assumes nothing.
use Prim.Native.Nat.{ℕ, ◌+◌}
use lib.ListN.{get_or}
use lib.Ieee.{nan}
use Rattle.laws.specs.Laws.Filled.{Filled}
use Rattle.encoder.proofs.section.Given as goal

abbrev pub invariant-loop-j : goal.invariant-loop-j
invariant-loop-j l = Filled nan (λ (k : ℕ). get_or l.t (l.from + k) nan) 8 l.j l.out
