-- The middle byte of state 0 with the bits of the set's first byte turned; past the table it is 0.
use Rattle.std.proofs.Common.{arith, sym}
use Rattle.laws.specs.Words.{tab}
use Rattle.trellis.specs.Tables.{middles}
use Rattle.trellis.specs.Trellis.{middle_of}
use Rattle.trellis.specs.Laws.Path.{row_beyond, row_past, middles-length}
use Rattle.trellis.specs.Laws.Rows.{zero_middles, set_firsts, middle-sum}
use Rattle.trellis.proofs.middle.Goals as goal
use Rattle.trellis.proofs.middle.Goals.{then-s8-ge64-via-then-s8-ge64, then-s8-ge64-via-else-s8-ge64+then-b2-ge16}

pub returns-then-s8-ge64 : goal.returns-then-s8-ge64
unfolding middle_of
returns-then-s8-ge64 c =
    let s = c.args.s8 in
    let b = c.args.b2 in
    elim c.then-s8-ge64.branch [
      | then-s8-ge64-via-then-s8-ge64 w ↦ sym (row_beyond 16 middles s b (omega (arith, middles-length)))
      | then-s8-ge64-via-else-s8-ge64+then-b2-ge16 w ↦ sym (row_past 16 middles s b (omega arith))
    ]

pub returns : goal.returns
unfolding zero_middles set_firsts tab middles
returns c = middle-sum c.args.s8 c.args.b2 (omega arith) (omega arith)
