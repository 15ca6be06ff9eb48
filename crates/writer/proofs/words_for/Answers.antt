-- `writer::words_for` meets its contract. Assumes nothing.
use native.Mathlib.Omega.{arith}
use Rattle.writer.proofs.Blocks.{front}
use Rattle.writer.proofs.words_for.Goals as goal

pub returns : goal.returns
returns c =
    let l = c.loop-i in
    let a = c.args in
    front _ a.count l.words (omega (arith, l.invariant.long)) (λ k h. l.invariant.held k (omega arith))
