-- `read_row` meets its contract. Assumes nothing.
use native.Mathlib.Omega.{arith}
use mathlib.Core.Path.{sym}
use Prim.Native.Nat.{◌<◌}
use lib.ListN.{length, take, length-set}
use Rattle.text.specs.Laws.Rows.{row_more}
use Rattle.request.specs.Rows.{row_after}
use Rattle.request.proofs.Steps.{row_none, row_next, row_end}
use Rattle.request.proofs.read_row.Goals as goal

pub returns-in_err-v : goal.returns-in_err-v
returns-in_err-v g c =
    let l = c.loop-k in
    let all = row_after g.T.Word.after c.args.s.now c.args.at in
    rw c.from_residual.ensures (row_none g.T.Word.after c.args.s.now l.k (take l.k l.row) l.next all (omega arith) l.invariant.2 (sym c.in_err-v.ensures))

pub loop-k-preserved : goal.loop-k-preserved
loop-k-preserved g c =
    let l = c.loop-k in
    let v = c.in_ok-v.v in
    let all = row_after g.T.Word.after c.args.s.now c.args.at in
    let h : l.k < length l.row = omega (arith, l.invariant.1) in (
      omega arith,
      simp length-set l.invariant.1,
      rw (row_more _ l.row l.k v h)
          at (row_next g.T.Word.after c.args.s.now l.k (take l.k l.row) l.next all v c.in_ok-v.after (omega arith) l.invariant.2 (sym c.in_ok-v.ensures)),
    )

pub returns : goal.returns
returns g c =
    let l = c.loop-k in
    let all = row_after g.T.Word.after c.args.s.now c.args.at in
    row_end g.T.Word.after c.args.s.now l.k l.row l.next all (omega arith) l.invariant.1 l.invariant.2
