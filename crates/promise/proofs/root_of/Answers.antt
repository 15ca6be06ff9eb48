-- `promise::root_of` meets its contract. Assumes nothing.
use borrow.Author.Rules.{rules}
use Rattle.promise.proofs.Shown.{of_root}
use Rattle.promise.proofs.root_of.Goals as goal

pub returns : goal.returns
returns c = of_root c.args.x _ (search rules) c.root.ensures
