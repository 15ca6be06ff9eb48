-- `count::put_blocks` meets its contract. The invariant: storing the blocks that are left leaves what storing all of them at the start would.
-- Assumes nothing.
use native.Mathlib.Omega.{arith}
use mathlib.Core.Path.{sym, ◌∙◌}
use Prim.Native.Nat.{◌<◌}
use lib.ListN.{length}
use Rattle.page.proofs.Filling.{blocks-next, blocks_end}
use Rattle.page.proofs.count.put_blocks.Goals as goal

pub loop-i-preserved : goal.loop-i-preserved
loop-i-preserved c =
    let l = c.loop-i in
    let w = c.words-word-items.result.now in
    let q = c.put_block.ensures in
    let n : l.i < length w = omega arith in
    (c.put_block.auto.out ∙ l.invariant.0, rw q (sym (blocks-next c.args.page.now.num w l.i n l.out) ∙ l.invariant.1))

pub returns : goal.returns
returns c =
    let l = c.loop-i in
    let w = c.words-word-items in
    let e = blocks_end c.args.page.now.num w.result.now l.i (omega arith) in
    rw w.ensures at (rw e at l.invariant.1)
