-- The invariant of `number_from`: reading on from here gives what reading from `first` does, and no byte past the line is passed. Assumes nothing.
use mathlib.Core.Path.{◌≡◌}
use Prim.Native.Nat.{◌-◌, ◌<◌}
use lib.ListN.{length, drop}
use Rattle.request.specs.Words.{number_from}
use Rattle.request.proofs.number_from.Given as goal

abbrev pub invariant-loop-i : goal.invariant-loop-i
invariant-loop-i l =
    (length l.s < l.i → l.i ≡ l.first)
    × (number_from l.base l.most l.i l.v (l.i - l.first) (drop l.i l.s) ≡ number_from l.base l.most l.first 0 0 (drop l.first l.s))
