-- `read_signed` meets its contract. Assumes nothing.
use borrow.Author.Tests.{eq-eqb, ne_eqb}
use native.Mathlib.Omega.{arith}
use mathlib.Core.Path.{◌≡◌, ap, sym, ◌∙◌}
use mathlib.Core.Bool.{Bool, true, false, cond}
use mathlib.Core.List.{List}
use Prim.Native.Nat.{ℕ, ◌+◌}
use borrow.Author.Rules.{rules}
use mir.Syntax.{w32}
use mir.Val.{SFits}
use mir.Facts.{to_z-of_z}
use lib.Dec.{eqb}
use lib.ListN.{length, drop, get_or}
use Rattle.request.specs.Words.{signed_after, with_sign, number_from}
use Rattle.request.proofs.read_signed.Goals as goal
use Rattle.request.proofs.read_signed.Goals.{then-below, else-below, After-number_from}

-- behind a space, where b says whether a minus sign follows, and the digits stand from `first` on
behind_space : (s : List ℕ) (at first : ℕ) (b : Bool) → get_or s at 0 ≡ 32 → eqb (get_or s (at + 1) 0) 45 ≡ b → first ≡ cond b (at + 1 + 1) (at + 1)
    → signed_after s at ≡ with_sign b (number_from 10 (length s) first 0 0 (drop first s))
unfolding signed_after
behind_space s at first true h e f = rw (h, e, f)
behind_space s at first false h e f = rw (h, e, f)

whole : (c : After-number_from) → signed_after c.args.s.now c.args.at ≡ with_sign (eqb c.byte_at-below.result 45) c.number_from.result
whole c =
    let r = c.byte_at-below.result in
    let first : c.if-below.first ≡ cond (eqb r 45) (c.args.at + 1 + 1) (c.args.at + 1) =
    elim c.if-below.branch [
      | then-below w ↦ rw (eq-eqb r 45 w.if-below.true) (omega (arith, w.first-is))
      | else-below w ↦ rw (ne_eqb r 45 w.if-below.false) (omega (arith, w.first-is))
    ] in
    behind_space c.args.s.now c.args.at c.if-below.first (eqb r 45) (sym c.byte_at.ensures ∙ c.if-byte_at-ne32.false) (ap (λ (b : ℕ). eqb b 45) (sym c.byte_at-below.ensures)) first
    ∙ ap (with_sign (eqb r 45)) (sym c.number_from.ensures)

pub returns-then-byte_at-ne32 : goal.returns-then-byte_at-ne32
unfolding signed_after
returns-then-byte_at-ne32 c = rw (← c.byte_at.ensures, ne_eqb _ _ c.if-byte_at-ne32.true)

pub returns-in_err-magnitude : goal.returns-in_err-magnitude
unfolding with_sign
returns-in_err-magnitude c =
    let w = whole (goal.at.returns-in_err-magnitude c).After-number_from in
    c.from_residual.ensures ∙ sym (w ∙ rw c.in_err-magnitude.was)

pub returns-in_err-with_sign : goal.returns-in_err-with_sign
unfolding with_sign
returns-in_err-with_sign c =
    let w = whole (goal.at.returns-in_err-with_sign c).After-number_from in
    c.from_residual-in_err-with_sign.ensures ∙ sym (w ∙ rw (c.in_ok-magnitude.was, ← c.in_err-with_sign.ensures))

pub returns : goal.returns
unfolding with_sign
returns c =
    let w = whole (goal.at.returns c).After-number_from in
    let f : SFits w32 c.in_ok-with_sign.field-0 = search rules in
    let e = sym c.with_sign.ensures ∙ c.in_ok-with_sign.was in
    sym (w ∙ rw (c.in_ok-magnitude.was, e, to_z-of_z f))
