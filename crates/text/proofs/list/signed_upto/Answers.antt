-- `list::signed_upto` meets its contract. Assumes nothing.
use native.Mathlib.Omega.{arith}
use mathlib.Core.Path.{sym}
use mir.Syntax.{w32}
use mir.Facts.{to_z_pos}
use Rattle.text.specs.Rows.{signed_at}
use Rattle.text.specs.Laws.Lines.{decimal_only}
use Rattle.text.proofs.list.signed_upto.Goals as goal

pub returns-in_default : goal.returns-in_default
unfolding signed_at
returns-in_default c = rw (← c.in_default.ensures) c.below_zero.ensures

pub overflow_cast-result : goal.overflow_cast-result
overflow_cast-result c =
    let a = c.args in
    record { sfits = omega (arith, (decimal_only a.end 2147483647 a.s.now _ _ (sym c.in-Some.ensures)).3) }

pub returns : goal.returns
unfolding signed_at
returns c =
    let a = c.args in
    let m = (decimal_only a.end 2147483647 a.s.now _ _ (sym c.in-Some.ensures)).3 in
    rw (← c.in-Some.ensures, to_z_pos w32 {n = c.in-Some.v} (omega (arith, m)))
