-- `promise::made_page` meets its contract. Assumes nothing.
use Rattle.promise.proofs.Made.{of_mkpage}
use Rattle.std.proofs.Common.{ap}
use Rattle.text.specs.Held.{in_array}
use Rattle.promise.proofs.made_page.Goals as goal

pub returns : goal.returns
returns c = of_mkpage c.args.text.now _ (ap (in_array 1189) c.mkpage.ensures)
