-- The invariant of `writer::first_block`: no block before i passes the test, so the lowest of all is the lowest of those that are left. Assumes
-- nothing.
use mathlib.Core.Path.{◌≡◌}
use mathlib.Core.Bool.{Bool}
use mathlib.Core.List.{List}
use lib.IntN.{ℤ}
use Prim.Native.Nat.{◌-◌}
use Rattle.writer.specs.Writer.{first_of}
use Rattle.writer.proofs.first_block.Given as goal

abbrev pub invariant-loop-i : goal.invariant-loop-i
invariant-loop-i g l =
    (passes : List ℤ → Bool) → ((b : List ℤ) (r : Bool) → goal.F-post g l.test b r → r ≡ passes b)
    → first_of passes l.samples 0 l.count ≡ first_of passes l.samples l.i (l.count - l.i)
