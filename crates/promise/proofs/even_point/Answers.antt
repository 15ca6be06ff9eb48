-- `promise::even_point` meets its contract. Assumes nothing.
use Rattle.std.proofs.Common.{ap, ◌∙◌}
use Rattle.even.specs.Even.{even_decoded}
use Rattle.tetra.specs.Laws.Answer.{encoded-word}
use borrow.Author.Rules.{rules}
use Rattle.promise.proofs.Evens.{of_point}
use Rattle.promise.proofs.even_point.Goals as goal

pub returns : goal.returns
returns c =
    of_point c.args.point _ _ _ (search rules) c.encode_point-coded.ensures c.encode-full.ensures
    (c.decode-back.ensures ∙ ap even_decoded (c.unwrap_or.ensures ∙ encoded-word c.encode_point-coded.result))
