-- `fallback_entries::dist_to` meets its contract. The invariant: the sum is that of the first j coordinates. Assumes nothing.
use Rattle.std.proofs.Common.{◌≡◌, ◌≤◌}
use Rattle.fallback_entries.specs.Inner.Flat.{sum_to}
use Rattle.fallback_entries.proofs.dist_to.Given as goal

abbrev pub invariant-loop-j : goal.invariant-loop-j
invariant-loop-j l = (l.j ≤ 8) × (l.s ≡ sum_to l.squares l.c l.key l.j)
