-- `promise::added_word` meets its contract. Assumes nothing.
use Rattle.promise.proofs.Summaries.{of-add}
use Rattle.promise.proofs.added_word.Goals as goal

pub returns : goal.returns
returns c = of-add c.args.text.now c.args.rows.now _ _ c.args.word c.add.ensures.value c.add.ensures.rows_after
