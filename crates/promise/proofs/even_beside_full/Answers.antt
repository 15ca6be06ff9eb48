-- `promise::even_beside_full` meets its contract. Assumes nothing.
use Rattle.std.proofs.Common.{◌≡◌, length}
use borrow.Author.Rules.{rules}
use Rattle.float.specs.Laws.Arrays.{each-held}
use Rattle.score.specs.Samples.{AllFit}
use Rattle.promise.proofs.Evens.{of_both}
use Rattle.promise.proofs.even_beside_full.Goals as goal

pub returns : goal.returns
returns c =
    let a = c.args in
    let l : length a.samples ≡ 24 = search rules in
    let f : AllFit a.samples = λ k. search (each-held, rules) in
    of_both a.samples l f a.scale a.setting _ _ (search rules) c.encode_at_scale-even.ensures c.encode_at_scale-full.ensures
