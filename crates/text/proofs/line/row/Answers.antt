-- `line::row` meets its contract. Assumes nothing.
use mathlib.Core.Path.{◌≡◌, refl, sym, ◌∙◌, ap}
use native.Mathlib.Omega.{arith}
use lib.ListN.{get_or}
use Rattle.std.specs.Prelude.{Some}
use Rattle.text.specs.Lines.{hex_at, digit_at}
use Rattle.text.specs.Laws.Lines.{digit_only}
use Rattle.text.proofs.Reading.{hex-step, hex_stop, hex_room}
use Rattle.text.proofs.line.row.Goals as goal
use Rattle.text.proofs.line.row.Goals.{In_ok-v}

-- the digit that was read
read : (c : In_ok-v) → digit_at (get_or c.args.s.now c.loop-j.j 0) ≡ Some c.in_ok-v.field-0
read c = sym (c.in_ok-v.ensures ∙ ap digit_at c.byte_at.ensures)

pub loop-j-init : goal.loop-j-init
unfolding hex_at
loop-j-init c = (omega arith, refl)

pub returns-in_err-v : goal.returns-in_err-v
returns-in_err-v c =
    let l = c.loop-j in
    let s = c.args.s.now in
    c.from_residual.ensures ∙ sym (hex_stop _ l.j l.v s (omega arith) l.invariant.1 (sym (c.in_err-v.ensures ∙ ap digit_at c.byte_at.ensures)))

pub overflow_mul-v : goal.overflow_mul-v
overflow_mul-v c =
    let l = c.loop-j in
    let s = c.args.s.now in
    omega (arith, hex_room l.j l.v s (omega arith) l.invariant.1)

pub overflow_add-v : goal.overflow_add-v
overflow_add-v c =
    let l = c.loop-j in
    let s = c.args.s.now in
    omega (arith, hex_room l.j l.v s (omega arith) l.invariant.1, (digit_only _ _ (read (goal.at.overflow_add-v c).In_ok-v)).0)

pub loop-j-preserved : goal.loop-j-preserved
loop-j-preserved c =
    let l = c.loop-j in
    let s = c.args.s.now in
    (omega arith, hex-step l.j l.v _ s l.invariant.1 (read (goal.at.loop-j-preserved c).In_ok-v))
