-- `promise::printed_page` meets its contract. Assumes nothing.
use Rattle.promise.proofs.Shown.{of_print}
use Rattle.std.proofs.Common.{ap}
use Rattle.text.specs.Held.{in_array}
use Rattle.promise.proofs.printed_page.Goals as goal

pub returns : goal.returns
returns c = of_print c.args.text.now _ (ap (in_array 20672) c.unpage.ensures)
