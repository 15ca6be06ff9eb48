-- `promise::from_page` meets its contract. Assumes nothing.
use Rattle.promise.proofs.Shown.{of_page}
use Rattle.promise.proofs.from_page.Goals as goal

pub returns : goal.returns
returns c = of_page c.args.text.now c.args.out.now _ _ c.read.ensures.value c.read.ensures.out_after
