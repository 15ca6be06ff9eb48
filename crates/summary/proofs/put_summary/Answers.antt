-- `put_summary` meets its contract. Assumes nothing.
use native.Mathlib.Omega.{arith}
use mathlib.Core.Path.{ap, sym, ◌∙◌}
use Prim.Native.Nat.{◌+◌, ◌*◌}
use lib.Seq.{sets}
use Rattle.summary.proofs.Filling.{rows_start, rows_next, left_end}
use Rattle.summary.proofs.put_summary.Goals as goal

pub loop-i-preserved : goal.loop-i-preserved
loop-i-preserved c =
    let l = c.loop-i in
    let w = c.words-word-items.result.now in
    let q = c.put_row-in-loop-i.ensures ∙ ap (sets l.rows (4 * (l.i + 1))) c.block_row.ensures in (
      c.put_row-in-loop-i.auto.rows ∙ l.invariant.0,
      rw q (sym (rows_next w l.i (omega arith) l.rows) ∙ l.invariant.1),
    )

pub returns : goal.returns
returns c =
    let l = c.loop-i in
    let a = c.args in
    let w = c.words-word-items in
    let e = left_end w.result.now l.i (omega arith) in
    rw w.ensures at (rw e at l.invariant.1)
    ∙ rw (c.put_row.ensures ∙ ap (sets a.rows.now 0) c.page_row.ensures, ← w.ensures) (sym (rows_start w.result.now a.rows.now))
