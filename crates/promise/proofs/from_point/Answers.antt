-- `promise::from_point` meets its contract. Assumes nothing.
use Rattle.std.proofs.Common.{ap, ◌∙◌}
use Rattle.tetra.specs.Tetra.{point_of}
use Rattle.tetra.specs.Laws.Answer.{encoded-word}
use borrow.Author.Rules.{rules}
use Rattle.promise.proofs.Shown.{of_point}
use Rattle.promise.proofs.from_point.Goals as goal

pub returns : goal.returns
returns c =
    of_point c.args.point _ _ (search rules) c.encode-coded.ensures
    (c.decode-back.ensures ∙ ap point_of (c.unwrap_or.ensures ∙ encoded-word c.encode-coded.result))
