-- `count::put_blocks` meets its contract. The invariant: storing the blocks that are left leaves what storing all of them at the start would.
-- Assumes nothing.
use mathlib.Core.Path.{◌≡◌}
use Prim.Native.Nat.{◌*◌}
use lib.ListN.{length, drop}
use lib.Seq.{sets}
use Rattle.page.specs.Counts.{page_counts}
use Rattle.page.proofs.count.put_blocks.Given as goal

abbrev pub invariant-loop-i : goal.invariant-loop-i
invariant-loop-i l =
    (length l.out ≡ length l.initial.out)
    × (sets l.out (24 * l.i) (page_counts l.page.num (drop l.i l.word-items)) ≡ sets l.initial.out 0 (page_counts l.page.num l.word-items))
