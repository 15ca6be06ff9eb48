-- `writer::first_block` meets its contract. Assumes nothing.
use mathlib.Core.Path.{◌≡◌, sym, ap, ◌∙◌}
use mathlib.Core.Bool.{true, false}
use Prim.Native.Nat.{◌*◌}
use native.Mathlib.Omega.{arith}
use Rattle.tetra.specs.Block.{block_at}
use Rattle.writer.proofs.Blocks.{first_here, first_next, first_done}
use Rattle.writer.proofs.first_block.Goals as goal

pub loop-i-preserved : goal.loop-i-preserved
loop-i-preserved g c = λ passes law.
    let l = c.loop-i in
    let t : passes (block_at c.args.samples.now (24 * l.i)) ≡ false = ap passes (sym c.block.ensures) ∙ sym (law _ _ c.test.ensures) ∙ c.if-test.false in
    l.invariant passes law ∙ first_next passes c.args.samples.now l.i c.args.count (omega arith) t

pub returns-then-test-clause-value : goal.returns-then-test-clause-value
returns-then-test-clause-value g c = λ passes law.
    let l = c.loop-i in
    let t : passes (block_at c.args.samples.now (24 * l.i)) ≡ true = ap passes (sym c.block.ensures) ∙ sym (law _ _ c.test.ensures) ∙ c.if-test.true in
    sym (l.invariant passes law ∙ first_here passes c.args.samples.now l.i c.args.count (omega arith) t)

pub returns : goal.returns
returns g c =
    let l = c.loop-i in
    let e : l.i ≡ c.args.count = omega arith in record {
      below = tt;
      value = λ passes law. sym (l.invariant passes law ∙ first_done passes c.args.samples.now l.i c.args.count (omega arith) ∙ e);
    }
