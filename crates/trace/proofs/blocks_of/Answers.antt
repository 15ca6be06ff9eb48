-- `blocks_of` meets its contract: at each block the text ends, or there is none, or one more is kept. Assumes nothing.
use borrow.Author.Rules.{rules}
use native.Mathlib.Omega.{arith}
use mathlib.Core.Path.{◌≡◌, refl, sym, ap, ◌∙◌}
use Prim.Native.Nat.{◌+◌, ◌≤◌}
use lib.ListN.{length, drop, length-drop}
use Rattle.std.specs.Prelude.{Some}
use Rattle.text.specs.Laws.Lines.{tail, line-fits}
use Rattle.trace.specs.Laws.Reader.{block-rule}
use Rattle.trace.specs.Answer.{traced_of}
use Rattle.trace.specs.Reader.{block_at}
use Rattle.trace.proofs.Blocks.{kept-none, kept_full, kept-bad, kept_end, kept_next}
use Rattle.trace.proofs.blocks_of.Goals as goal
use Rattle.trace.proofs.blocks_of.Goals.{In-Some}

-- the samples and the length of the block at `at`
block : (c : In-Some) → block_at c.loop-at.i (drop c.loop-at.at c.args.text.now) ≡ Some (c.in-Some.block.0, c.in-Some.block.1)
block c = sym (c.block_at.ensures ∙ ap (block_at c.loop-at.i) (tail c.args.text.now c.loop-at.at)) ∙ c.in-Some.is

-- it stands within the text, and has 24 samples
room : (c : In-Some) → c.loop-at.at + c.in-Some.block.1 ≤ length c.args.text.now
room c =
    let l = c.loop-at in
    let s = c.args.text.now in
    omega (arith, l.invariant.inside, line-fits _ _ _ (block-rule l.i) (drop l.at s) _ _ (block c), length-drop l.at s)

size : (c : In-Some) → length c.in-Some.block.0 ≡ 24
size c = ((block-rule c.loop-at.i).only (drop c.loop-at.at c.args.text.now) _ _ (block c)).0.0

pub loop-at-init : goal.loop-at-init
loop-at-init c = kept-none _ _ _ refl

pub returns-then-i-eq64 : goal.returns-then-i-eq64
unfolding traced_of
returns-then-i-eq64 c =
    let l = c.loop-at in
    let a = c.args in
    ap traced_of (sym (kept_full a.text.now a.num l.samples l.at l.i l.invariant (omega arith) c.if-i-eq64.true))

pub returns-in_default : goal.returns-in_default
unfolding traced_of
returns-in_default c =
    let l = c.loop-at in
    let a = c.args in
    let e = sym (c.block_at.ensures ∙ ap (block_at l.i) (tail a.text.now l.at)) ∙ c.in_default.is in
    ap traced_of
    (sym (kept-bad a.text.now a.num l.samples l.at l.i l.invariant (omega arith) (omega (arith, l.invariant.few, c.if-i-eq64.false)) e))

pub overflow_add-at : goal.overflow_add-at
overflow_add-at c =
    let k = room (goal.at.overflow_add-at c).In-Some in
    search rules

pub loop-at-preserved : goal.loop-at-preserved
loop-at-preserved c =
    let l = c.loop-at in
    let here = (goal.at.loop-at-preserved c).In-Some in
    rw c.put_block.ensures
    (kept_next c.args.text.now c.args.num l.samples l.at l.i _ _ l.invariant (omega arith) (omega (arith, l.invariant.few, c.if-i-eq64.false))
    (block here) (size here) (room here))

pub returns : goal.returns
returns c =
    let l = c.loop-at in
    let a = c.args in
    kept_end a.text.now a.num l.samples l.at l.i l.invariant (omega arith)
