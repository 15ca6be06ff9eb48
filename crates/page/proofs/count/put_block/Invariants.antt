-- `count::put_block` meets its contract. The invariant: storing the counts that are left leaves what storing all of them at the start would.
-- Assumes nothing.
use mathlib.Core.Path.{◌≡◌}
use mathlib.Core.List.{map}
use Prim.Native.Nat.{◌+◌}
use lib.ListN.{length, drop}
use lib.Seq.{sets}
use Rattle.page.specs.Counts.{count_of}
use Rattle.page.proofs.count.put_block.Given as goal

abbrev pub invariant-loop-j : goal.invariant-loop-j
invariant-loop-j l =
    (length l.out ≡ length l.initial.out)
    × (sets l.out (l.at + l.j) (drop l.j (map (count_of l.num) l.y-items)) ≡ sets l.initial.out l.at (map (count_of l.num) l.y-items))
