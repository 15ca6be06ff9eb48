-- `rank::Bound::holds`: two pairs compared, cost first and then ranks. Assumes nothing.
use Rattle.std.proofs.Common.{◌∙◌}
use Rattle.rank.proofs.Ranks.{within_is}
use Rattle.rank.proofs.Bound.holds.Goals as goal

pub returns : goal.returns
returns c = let a = c.args in c.le.ensures ∙ within_is c.weigh.result a.self.cost a.rho a.self.cut c.weigh.ensures
