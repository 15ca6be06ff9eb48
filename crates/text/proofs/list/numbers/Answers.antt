-- `list::numbers` meets its contract. Assumes nothing.
use borrow.Author.Rules.{rules}
use mir.Syntax.{w32}
use mir.Val.{SFits}
use mir.Facts.{to_z-of_z}
use native.Mathlib.Omega.{arith}
use mathlib.Core.Path.{◌≡◌, ap₂, sym, ◌∙◌}
use mathlib.Core.List.{[], ◌∷◌, ◌++◌}
use Prim.Native.Nat.{◌+◌, ◌-◌, ◌<◌, ◌≤◌}
use lib.IntN.{ℤ}
use lib.ListN.{length, take, drop, length-set, length-drop}
use Rattle.std.specs.Prelude.{Some, None}
use Rattle.text.specs.Lines.{onRead}
use Rattle.text.specs.Rows.{signed_at, end_before, numbers_from}
use Rattle.text.specs.Laws.Lines.{tail, line-fits}
use Rattle.text.specs.Laws.Rows.{end_small, signed-rule, row_more}
use Rattle.text.proofs.Reading.{numbers-step, numbers_end}
use Rattle.text.proofs.list.numbers.Goals as goal
use Rattle.text.proofs.list.numbers.Goals.{In-loop-j, In_ok-z}

-- what reading from `start` gives, in terms of the next number
whole : (c : In-loop-j)
    → let a = c.args in
    let l = c.loop-j in
    numbers_from 24 [] a.start (drop a.start a.s.now)
    ≡ onRead (signed_at (end_before (23 - l.j)) (drop l.at a.s.now)) None
    (λ z m. numbers_from (24 - (l.j + 1)) (take l.j l.values ++ (z ∷ [])) (l.at + m) (drop (l.at + m) a.s.now))
whole c =
    let a = c.args in
    let l = c.loop-j in
    sym l.invariant.3 ∙ numbers-step l.j (take l.j l.values) l.at a.s.now (omega arith)

-- the number at `at`: its value and its length
value : (c : In_ok-z)
    → let l = c.loop-j in
    let s = c.args.s.now in
    signed_at (end_before (23 - l.j)) (drop l.at s) ≡ Some (c.in_ok-z.z, c.in_ok-z.n)
value c =
    let l = c.loop-j in
    let s = c.args.s.now in
    sym (c.in_ok-z.ensures ∙ ap₂ signed_at c.end_of.ensures (tail s l.at))

-- it stands within the text
room : (c : In_ok-z) → c.loop-j.at + c.in_ok-z.n ≤ length c.args.s.now
room c =
    let l = c.loop-j in
    let s = c.args.s.now in
    let rule = signed-rule (end_before (23 - l.j)) (end_small (23 - l.j)) in
    omega (arith, l.invariant.1, line-fits _ _ _ rule (drop l.at s) _ _ (value c), length-drop l.at s)

pub returns-in_err-z : goal.returns-in_err-z
returns-in_err-z c =
    let l = c.loop-j in
    let s = c.args.s.now in
    let e = sym (c.in_err-z.ensures ∙ ap₂ signed_at c.end_of.ensures (tail s l.at)) in
    c.from_residual.ensures ∙ sym (whole (goal.at.returns-in_err-z c).In-loop-j ∙ rw e)

pub overflow_add-at : goal.overflow_add-at
overflow_add-at c =
    omega (arith, room (goal.at.overflow_add-at c).In_ok-z, c.well_formed.0.0)

pub loop-j-preserved : goal.loop-j-preserved
loop-j-preserved c =
    let at = goal.at.loop-j-preserved c in
    let l = c.loop-j in
    let z = c.in_ok-z.z in
    let f : SFits w32 z = search rules in
    let h : l.j < length l.values = omega (arith, l.invariant.2) in (
      omega arith,
      room at.In_ok-z,
      simp length-set l.invariant.2,
      sym (whole at.In-loop-j ∙ rw (value at.In_ok-z, to_z-of_z f, row_more ℤ l.values l.j z h)),
    )

pub returns : goal.returns
returns c =
    let l = c.loop-j in
    sym (numbers_end l.j l.values l.at _ (omega arith) l.invariant.2) ∙ l.invariant.3
