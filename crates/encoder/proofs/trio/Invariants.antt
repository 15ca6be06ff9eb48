-- The invariant of `encoder::trio`: the places before j are filled. Assumes nothing.
use mathlib.Core.List.{List}
use Prim.Native.Nat.{ℕ}
use lib.ListN.{get_or}
use lib.Ieee.{Float, nan}
use Rattle.laws.specs.Laws.Filled.{Filled}
use Rattle.search.specs.Block.{coordinate}
use Rattle.encoder.proofs.trio.Given as goal

abbrev at : List Float → ℕ → Float
at t k = get_or t (coordinate k) nan

abbrev pub invariant-loop-j : goal.invariant-loop-j
invariant-loop-j l = Filled nan (at l.t) 24 l.j l.out
