-- `rank::val`. Assumes nothing.
use borrow.Author.Rules.{rules}
use mir.Syntax.{w32}
use mir.Val.{SFits}
use mir.Facts.{to_z-of_z}
use Rattle.rank.specs.Answers.{valued_of}
use Rattle.rank.proofs.val.Goals as goal

pub returns-then-o-rho : goal.returns-then-o-rho
unfolding valued_of
returns-then-o-rho c =
    let f : SFits w32 c.value_at.result = search rules in
    rw (c.if-o-rho.true, to_z-of_z f, c.value_at.ensures)

pub returns-else-o-rho : goal.returns-else-o-rho
unfolding valued_of
returns-else-o-rho c = rw c.if-o-rho.false
