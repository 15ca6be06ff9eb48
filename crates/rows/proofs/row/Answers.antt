-- `rows::row` meets its contract: past the table there is nothing. Assumes nothing.
use Rattle.std.proofs.Common.{sym, arith}
use lib.ListN.{get_or-eq_default}
use Rattle.rows.specs.Rows.{rows}
use Rattle.rows.specs.Laws.Rule.{count}
use Rattle.rows.proofs.row.Goals as goal

pub returns : goal.returns
returns c = sym (get_or-eq_default rows 0 (omega (arith, count)))
