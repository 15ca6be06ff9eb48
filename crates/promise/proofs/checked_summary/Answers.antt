-- `promise::checked_summary` meets its contract. Assumes nothing.
use Rattle.promise.proofs.Summaries.{of_check}
use Rattle.promise.proofs.checked_summary.Goals as goal

pub returns : goal.returns
returns c = of_check c.args.text.now c.args.rows.now _ c.check.ensures
