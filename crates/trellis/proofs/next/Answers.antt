-- The states of the branches out of state 0, and the state's own share, added up; past the table it is 0.
use Rattle.std.proofs.Common.{arith, sym}
use Rattle.trellis.specs.Tables.{nexts}
use Rattle.trellis.specs.Trellis.{next_of}
use Rattle.trellis.specs.Laws.Path.{row_beyond, row_past, nexts-length}
use Rattle.trellis.proofs.Rows.{zero_nexts, next-sum}
use Rattle.trellis.proofs.next.Goals as goal
use Rattle.trellis.proofs.next.Goals.{then-s8-ge64-via-then-s8-ge64, then-s8-ge64-via-else-s8-ge64+then-b2-ge16}

pub returns-then-s8-ge64 : goal.returns-then-s8-ge64
unfolding next_of
returns-then-s8-ge64 c =
    let s = c.args.s8 in
    let b = c.args.b2 in
    elim c.then-s8-ge64.branch [
      | then-s8-ge64-via-then-s8-ge64 w ↦ sym (row_beyond 16 nexts s b (omega (arith, nexts-length)))
      | then-s8-ge64-via-else-s8-ge64+then-b2-ge16 w ↦ sym (row_past 16 nexts s b (omega arith))
    ]

pub returns : goal.returns
unfolding zero_nexts nexts
returns c = next-sum c.args.s8 c.args.b2 (omega arith) (omega arith)
