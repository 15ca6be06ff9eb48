-- `tetra::bits`: the bits from coordinate j on. Assumes nothing.
use mathlib.Core.Path.{◌≡◌}
use Prim.Native.Nat.{◌-◌, ◌^◌, ◌≤◌, ◌<◌}
use lib.ListN.{drop}
use Rattle.rank.specs.Section.{bits_of}
use Rattle.tetra.proofs.bits.Given as goal

abbrev pub invariant-loop-j : goal.invariant-loop-j
invariant-loop-j l = (l.j ≤ 24) × (l.c ≡ bits_of (drop l.j l.t)) × (l.c < 2 ^ (24 - l.j))

abbrev pub decreases-loop-j : goal.decreases-loop-j
decreases-loop-j l = l.j
