-- `promise::scale_of` meets its contract. Assumes nothing.
use Rattle.promise.proofs.Shown.{of_scales}
use Rattle.promise.proofs.scale_of.Goals as goal

pub returns : goal.returns
returns c = of_scales c.args.samples _ c.lower_scale.ensures
