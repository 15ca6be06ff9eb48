-- `promise::even_page` meets its contract. Assumes nothing.
use Rattle.promise.proofs.Evens.{of_page}
use Rattle.promise.proofs.even_page.Goals as goal

pub returns : goal.returns
returns c = of_page c.args.text.now c.args.out.now _ _ c.read_page.ensures.value c.read_page.ensures.out_after
