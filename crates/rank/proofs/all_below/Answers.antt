-- `rank::all_below`. Assumes nothing.
use Rattle.std.proofs.Common.{rules, ◌∙◌, ltb, ℕ}
use Rattle.std.proofs.lemmas.Iterator.{YieldsList-from_slice}
use Rattle.std.proofs.lemmas.Iterator.Search.{all_from_yields_List}
use borrow.Author.Tests.{tests}
use Rattle.rank.proofs.Ranks.{all_is}
use Rattle.rank.proofs.all_below.Goals as goal

pub returns : goal.returns
returns c =
    let a = c.args in
    all_from_yields_List (λ (r : ℕ). ltb r a.b) _ _ _ c.all.ensures.ran (YieldsList-from_slice a.rho cc) (λ x b q k. search (rules, tests))
    ∙ all_is a.b a.rho
