-- The label that the columns of the way back give, where its codeword is the word.
use Rattle.trellis.specs.Laws.Code.{back_columns}
use Rattle.trellis.proofs.Ways.{label-found, label_lost}
use Rattle.trellis.proofs.label_of.Goals as goal

pub returns-then-codeword-c : goal.returns-then-codeword-c
unfolding back_columns
returns-then-codeword-c c =
    let f = c.combine-x in
    let g = c.codeword in
    label-found c.args.c f.result g.result f.ensures g.ensures c.if-codeword-c.true

pub returns-else-codeword-c : goal.returns-else-codeword-c
unfolding back_columns
returns-else-codeword-c c =
    let f = c.combine-x in
    let g = c.codeword in
    label_lost c.args.c f.result g.result f.ensures g.ensures c.if-codeword-c.false
