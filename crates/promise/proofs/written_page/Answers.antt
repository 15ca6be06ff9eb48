-- `promise::written_page` meets its contract. Assumes nothing.
use Rattle.promise.proofs.Made.{of_write}
use Rattle.promise.proofs.written_page.Goals as goal

pub returns : goal.returns
returns c =
    of_write c.args.num c.args.count c.args.samples.now c.args.text.now _ _ c.write.ensures.value c.write.ensures.text_after
