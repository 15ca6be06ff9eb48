-- `promise::parsed_page` meets its contract. Assumes nothing.
use Rattle.promise.proofs.Shown.{of_parse}
use Rattle.promise.proofs.parsed_page.Goals as goal

pub returns : goal.returns
returns c = of_parse c.args.text.now _ c.parse.ensures
