-- `promise::with_setting` meets its contract. Assumes nothing.
use Rattle.std.proofs.Common.{◌≡◌, length, ◌∙◌}
use borrow.Author.Rules.{rules}
use Rattle.float.specs.Laws.Arrays.{each-held}
use Rattle.score.specs.Samples.{AllFit}
use Rattle.encoder.specs.Encode.{coded_by}
use Rattle.promise.proofs.Shown.{of_samples_lem}
use Rattle.promise.proofs.with_setting.Goals as goal

pub returns : goal.returns
returns c =
    let a = c.args in
    let w = c.with_back in
    let l : length a.samples ≡ 24 = search rules in
    let f : AllFit a.samples = λ k. search (each-held, rules) in
    of_samples_lem a.samples l f (coded_by w.result.code) w.result.decoded _ w.ensures.decoded_value w.ensures.encoded_value
    a.setting (w.ensures.code_value ∙ c.encode_with.ensures)
