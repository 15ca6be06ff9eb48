-- `score::check_zeros` meets its contract. Assumes nothing.
use Rattle.std.specs.Prelude.{◌≡◌, true, false, Float}
use Rattle.std.proofs.Common.{rules, tests, sym, ◌∙◌}
use Rattle.std.specs.Float.Ieee.{of_bits, ne}
use Rattle.std.proofs.lemmas.Iterator.{YieldsList-from_slice, cases_from_any}
use Rattle.score.specs.Samples.{some}
use Rattle.score.specs.Choice.{nonzero}
use Rattle.score.proofs.Lists.{some_found}
use Rattle.score.proofs.check_zeros.Goals as goal
use Rattle.score.proofs.check_zeros.Goals.{After-any}

searched : (c : After-any) → c.any.result ≡ some nonzero c.args.x
unfolding of_bits ne
searched c =
    some_found nonzero c.args.x _ (cases_from_any _ _ _ (λ (v : Float). nonzero v ≡ true) (λ (v : Float). nonzero v ≡ false) c.any.ensures.ran
    (YieldsList-from_slice c.args.x cc) (λ v q k. search (rules, tests)) (λ v q k. search (rules, tests)))

pub returns-then-any : goal.returns-then-any
returns-then-any c = let u = sym (searched (goal.at.returns-then-any c).After-any) ∙ c.if-any.true in rw u

pub returns : goal.returns
returns c = let u = sym (searched (goal.at.returns c).After-any) ∙ c.if-any.false in rw u
