-- `list::below_zero` meets its contract. Assumes nothing.
use mathlib.Core.Path.{sym}
use borrow.Author.Rules.{rules}
use mir.Syntax.{w32}
use mir.Val.{SFits}
use mir.Facts.{to_z-of_z}
use Rattle.text.specs.Text.{bytes}
use Rattle.text.specs.Rows.{below_at}
use Rattle.text.specs.Laws.Lines.{keyed_only}
use Rattle.text.proofs.list.below_zero.Goals as goal

pub returns-in_err-v : goal.returns-in_err-v
unfolding below_at
returns-in_err-v c = rw (← c.in_err-v.ensures) c.from_residual.ensures

pub minus-requires : goal.minus-requires
minus-requires c =
    let a = c.args in
    (keyed_only a.end (bytes "-") 1 2147483648 a.s.now _ _ (sym c.in_ok-v.ensures)).0.1

pub returns : goal.returns
unfolding below_at
returns c =
    let f : SFits w32 c.minus.result = search rules in
    rw (to_z-of_z f, c.minus.ensures, ← c.in_ok-v.ensures)
