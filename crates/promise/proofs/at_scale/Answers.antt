-- `promise::at_scale` meets its contract. Assumes nothing.
use Rattle.std.proofs.Common.{◌≡◌, length, ◌∙◌}
use borrow.Author.Rules.{rules}
use Rattle.float.specs.Laws.Arrays.{each-held}
use Rattle.score.specs.Samples.{AllFit}
use Rattle.encoder.specs.Encode.{coded_by}
use Rattle.promise.proofs.Shown.{of_scale}
use Rattle.promise.proofs.at_scale.Goals as goal

pub returns : goal.returns
returns c =
    let a = c.args in
    let w = c.with_back in
    let l : length a.samples ≡ 24 = search rules in
    let f : AllFit a.samples = λ k. search (each-held, rules) in
    of_scale a.samples l f (coded_by w.result.code) w.result.decoded _ w.ensures.decoded_value w.ensures.encoded_value
    a.scale a.setting (search rules) (w.ensures.code_value ∙ c.encode_at_scale.ensures)
