-- `fallback_entries::member`: the residue and the rank are in the range of `rank::val`. Assumes nothing.
use Rattle.std.proofs.Common.{ap, ◌∙◌, rules, w32}
use Rattle.std.proofs.Math.Facts.{to_z-of_z}
use mir.Val.{SFits}
use Rattle.rank.specs.Answers.{Valued}
use Rattle.rank.specs.Laws.Vector.{valued, value_or_zero}
use Rattle.fallback_entries.proofs.member.Goals as goal

pub returns : goal.returns
returns c =
    let v : SFits w32 c.unwrap_or.result = search rules in
    to_z-of_z v ∙ c.unwrap_or.ensures ∙ value_or_zero c.val.result
    ∙ ap (λ (r : Valued). r.value) (c.val.ensures ∙ valued c.requires.0 c.requires.1)
