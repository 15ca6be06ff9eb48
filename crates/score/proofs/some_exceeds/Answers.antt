-- `score::some_exceeds` meets its contract. Assumes nothing.
use Rattle.std.specs.Prelude.{◌≡◌, true, false, Float}
use Rattle.std.proofs.Common.{rules, tests}
use Rattle.std.proofs.lemmas.Iterator.{YieldsList-from_slice, cases_from_any}
use Rattle.score.specs.Samples.{exceeds}
use Rattle.score.proofs.Lists.{some_found}
use Rattle.score.proofs.some_exceeds.Goals as goal

pub returns : goal.returns
returns c =
    let l = c.args.limit in
    let x = c.args.x.now in
    some_found (exceeds l) x _ (cases_from_any _ _ _ (λ (v : Float). exceeds l v ≡ true) (λ (v : Float). exceeds l v ≡ false) c.any.ensures.ran
    (YieldsList-from_slice x cc) (λ v q k. search (rules, tests)) (λ v q k. search (rules, tests)))
