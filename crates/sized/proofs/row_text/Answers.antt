-- `row_text` meets its contract: four lines, one behind the other. Assumes nothing.
use Rattle.std.proofs.Common.{rules, ◌+◌}
use lib.IntN.{pos}
use lib.ListN.{get_or}
use mir.Syntax.{w32}
use mir.Val.{SFits}
use mir.Facts.{to_z-of_z}
use Rattle.sized.proofs.Printing.{row_lines}
use Rattle.sized.proofs.row_text.Goals as goal

pub returns : goal.returns
returns c =
    let a = c.args in
    let f1 : SFits w32 (get_or a.rows.now a.from (pos 0)) = search rules in
    let f2 : SFits w32 (get_or a.rows.now (a.from + 1) (pos 0)) = search rules in
    let f3 : SFits w32 (get_or a.rows.now (a.from + 2) (pos 0)) = search rules in
    let f4 : SFits w32 (get_or a.rows.now (a.from + 3) (pos 0)) = search rules in
    row_lines a.rows.now a.from c.new-lines.ensures (rw (to_z-of_z f1) at c.put_cell.ensures.text) (rw (to_z-of_z f2) at c.put_cell-2.ensures.text)
    (rw (to_z-of_z f3) at c.put_cell-3.ensures.text) (rw (to_z-of_z f4) at c.put_cell-4.ensures.text)
