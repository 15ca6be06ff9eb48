-- `rank::pack`: the chain from the last rank on is the number that the definition makes. Assumes nothing.
use Rattle.std.proofs.Common.{rules, ◌≡◌, ◌∙◌, length, arith}
use Rattle.std.proofs.lemmas.Iterator.Adapters.{YieldsList-from_rev_slice}
use Rattle.std.proofs.lemmas.Iterator.Consumers.{fold_from_yields_List}
use borrow.Author.Tests.{tests}
use Rattle.rank.proofs.Ranks.{step, packed_is}
use Rattle.rank.proofs.pack.Goals as goal

pub returns : goal.returns
returns c =
    let eight : length c.args.rho ≡ 8 = search rules in
    fold_from_yields_List _ step 0 c.fold.result c.fold.ensures.ran (YieldsList-from_rev_slice c.args.rho cc) (λ a x b q k. search (rules, tests))
    ∙ packed_is c.args.rho (omega arith)
