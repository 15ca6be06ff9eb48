-- `promise::summarised_page` meets its contract. Assumes nothing.
use Rattle.promise.proofs.Summaries.{of_summarise}
use Rattle.promise.proofs.summarised_page.Goals as goal

pub returns : goal.returns
returns c = of_summarise c.args.text.now c.args.rows.now _ _ c.summarise.ensures.value c.summarise.ensures.rows_after
