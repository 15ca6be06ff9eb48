-- The invariant of `encoder::point_of`: the coordinates before i are set. Assumes nothing.
use Prim.Native.Nat.{ℕ}
use lib.IntN.{pos}
use Rattle.laws.specs.Laws.Filled.{Filled}
use Rattle.search.specs.Parity.{winner_by}
use Rattle.search.specs.Block.{place, winner_at}
use Rattle.encoder.proofs.point_of.Given as goal

abbrev pub invariant-loop-i : goal.invariant-loop-i
invariant-loop-i l = Filled (pos 0) (λ (k : ℕ). winner_at (winner_by l.w) (place k)) 24 l.i l.out
