-- `score::check_samples` meets its contract: each number where the tests are as its arm found them. Assumes nothing.
use Rattle.std.specs.Prelude.{◌≡◌, true, false, Float}
use Rattle.std.proofs.Common.{rules, tests, sym, ◌∙◌}
use Rattle.std.specs.Float.Ieee.{of_bits}
use Rattle.std.proofs.lemmas.Iterator.{YieldsList-from_slice, cases_from_any}
use Rattle.score.specs.Samples.{unbounded, some, sample_number}
use Rattle.score.proofs.Lists.{some_found}
use Rattle.score.proofs.check_samples.Goals as goal
use Rattle.score.proofs.check_samples.Goals.{After-any}

searched : (c : After-any) → c.any.result ≡ some unbounded c.args.samples
searched c =
    some_found unbounded c.args.samples _ (cases_from_any _ _ _ (λ (v : Float). unbounded v ≡ true) (λ (v : Float). unbounded v ≡ false) c.any.ensures.ran
    (YieldsList-from_slice c.args.samples cc) (λ v q k. search (rules, tests)) (λ v q k. search (rules, tests)))

pub returns-then-any : goal.returns-then-any
unfolding sample_number
returns-then-any c = let u = sym (searched (goal.at.returns-then-any c).After-any) ∙ c.if-any.true in rw u

pub returns-then-some_exceeds : goal.returns-then-some_exceeds
unfolding sample_number of_bits
returns-then-some_exceeds c =
    let u = sym (searched (goal.at.returns-then-some_exceeds c).After-any) ∙ c.if-any.false in
    let b = sym c.some_exceeds.ensures ∙ c.if-some_exceeds.true in
    rw (u, b)

pub returns : goal.returns
unfolding sample_number of_bits
returns c =
    let u = sym (searched (goal.at.returns c).After-any) ∙ c.if-any.false in
    let b = sym c.some_exceeds.ensures ∙ c.if-some_exceeds.false in
    rw (u, b)
