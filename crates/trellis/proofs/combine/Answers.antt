-- The column at hand comes to the word where its bit of the label is set.
use Rattle.std.proofs.Common.{arith}
use Rattle.trellis.proofs.Columns.{word_set, word_clear}
use Rattle.trellis.proofs.combine.Goals as goal
use Rattle.trellis.proofs.combine.Goals.{then-rest-eq1, else-rest-eq1}

pub loop-column-preserved : goal.loop-column-preserved
loop-column-preserved c =
    let l = c.loop-column in
    let cs = c.args.columns.now in
    let x = c.args.x in
    let i = l.column-index in
    elim c.if-rest-eq1.branch [
      | then-rest-eq1 w ↦ rw w.word-is (word_set cs x i l.word l.rest (omega arith) l.invariant w.if-rest-eq1.true)
      | else-rest-eq1 w ↦ rw w.word-is (word_clear cs x i l.word l.rest (omega arith) l.invariant w.if-rest-eq1.false)
    ]
