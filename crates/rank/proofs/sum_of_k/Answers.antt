-- `rank::sum_of_k`: the chain is the sum of the definition, and fits. Assumes nothing.
use Rattle.std.proofs.Common.{rules, ◌≡◌, ◌∙◌, ℕ, ◌+◌, ◌/◌, ◌^◌, ◌<◌, length}
use Rattle.std.proofs.lemmas.Iterator.{YieldsList-from_slice, YieldsList-from_map}
use Rattle.std.proofs.lemmas.Iterator.Adapters.{serves_from_places}
use Rattle.std.proofs.lemmas.Iterator.Consumers.{sum_by_from_yields_List, fits_by_from_yields_list}
use borrow.Author.Tests.{tests}
use Rattle.rank.proofs.Ranks.{met_below, k_is, k_fits}
use Rattle.rank.proofs.sum_of_k.Goals as goal

abbrev h : ℕ → ℕ
h r = (r + 1) / 2

pub sum-requires-clause-can : goal.sum-requires-clause-can
sum-requires-clause-can c = (
  tt,
  serves_from_places (YieldsList-from_slice c.args.rho cc) (λ x q k. search rules)
      (λ x k l e. let m : x.now < 8 = met_below 8 c.args.rho c.requires x.now k l e in search rules),
)

pub sum-requires-clause-fits : goal.sum-requires-clause-fits
sum-requires-clause-fits c =
    let eight : length c.args.rho ≡ 8 = search rules in
    fits_by_from_yields_list h c.args.rho c.map.result (2 ^ 32)
    (YieldsList-from_map _ h (YieldsList-from_slice c.args.rho cc) c.map.ensures.closure (λ x r q k. search (rules, tests)))
    (k_fits c.args.rho c.requires eight)

pub returns : goal.returns
returns c =
    sum_by_from_yields_List h c.args.rho c.map.result c.sum.result c.sum.ensures.ran
    (YieldsList-from_map _ h (YieldsList-from_slice c.args.rho cc) c.map.ensures.closure (λ x r q k. search (rules, tests)))
    ∙ k_is c.args.rho
