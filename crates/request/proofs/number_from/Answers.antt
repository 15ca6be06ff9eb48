-- `number_from` meets its contract. Assumes nothing.
use borrow.Author.Tests.{eq-eqb, ne_eqb, ltb-true, ltb-false}
use mathlib.Core.Path.{◌≡◌, refl, ap, sym, ◌∙◌}
use mathlib.Core.Bool.{Bool, true, false, cond}
use Prim.Native.Nat.{ℕ, ◌+◌, ◌-◌, ◌<◌, ◌≤◌}
use native.Mathlib.Omega.{arith}
use lib.Dec.{eqb, ltb}
use lib.ListN.{length, drop, get_or}
use Rattle.std.specs.Prelude.{None}
use Rattle.text.specs.Lines.{onDigit}
use Rattle.request.specs.Words.{more_of, counted_of, number_from}
use Rattle.request.proofs.Steps.{number_step, number_end}
use Rattle.request.proofs.number_from.Goals as goal
use Rattle.request.proofs.number_from.Goals.{In-loop-i}

-- what reading from `first` gives, in terms of the next byte
whole : (c : In-loop-i)
    → let a = c.args in
    let l = c.loop-i in
    let b = get_or a.s.now l.i 0 in
    number_from a.base a.most a.first 0 0 (drop a.first a.s.now)
    ≡ cond (eqb b 32) (counted_of a.most l.i l.v (l.i - a.first))
    (onDigit (more_of a.base l.v b) None (λ w. number_from a.base a.most (l.i + 1) w (l.i - a.first + 1) (drop (l.i + 1) a.s.now)))
whole c =
    let a = c.args in
    let l = c.loop-i in
    sym l.invariant.1 ∙ number_step a.base a.most l.i l.v (l.i - a.first) a.s.now (omega arith)

pub returns-then-s-i-eq32 : goal.returns-then-s-i-eq32
returns-then-s-i-eq32 c = c.counted.ensures ∙ sym (whole (goal.at.returns-then-s-i-eq32 c).In-loop-i ∙ rw (eq-eqb _ _ c.if-s-i-eq32.true))

pub returns-in_err-v : goal.returns-in_err-v
returns-in_err-v c =
    let e = sym c.in_err-v.ensures in
    c.from_residual.ensures ∙ sym (whole (goal.at.returns-in_err-v c).In-loop-i ∙ rw (ne_eqb _ _ c.if-s-i-eq32.false, e))

pub loop-i-preserved : goal.loop-i-preserved
loop-i-preserved c =
    let l = c.loop-i in
    let e = sym c.in_ok-v.ensures in
    let j : l.i + 1 - c.args.first ≡ l.i - c.args.first + 1 = omega (arith, l.auto.i) in
    (λ h. omega arith, rw j (sym (whole (goal.at.loop-i-preserved c).In-loop-i ∙ rw (ne_eqb _ _ c.if-s-i-eq32.false, e))))

-- the loop ends at the line's end, or where none of the line is left and so no digit was read
at_end : (most n first i v : ℕ) → (n < i → i ≡ first) → n ≤ i → counted_of most n v (n - first) ≡ counted_of most i v (i - first)
unfolding counted_of
at_end most n first i v l e = go (ltb n i) refl
  where
    go : (p : Bool) → ltb n i ≡ p → counted_of most n v (n - first) ≡ counted_of most i v (i - first)
    go true q =
        let h = ltb-true n i q in
        let a : n - first ≡ 0 = omega (arith, l h) in
        let b : i - first ≡ 0 = omega (arith, l h) in
        rw (a, b)
    go false q =
        let z : n ≡ i = omega (arith, e, ltb-false n i q) in
        rw z

pub returns : goal.returns
returns c =
    let a = c.args in
    let l = c.loop-i in
    let s = a.s.now in
    let whole = sym (number_end a.base a.most l.i l.v (l.i - a.first) s c.loop-i-test.false) ∙ l.invariant.1 in
    c.counted-2.ensures ∙ ap (counted_of a.most (length s) l.v) c.saturating_sub.ensures ∙ at_end a.most (length s) a.first l.i l.v l.invariant.0 c.loop-i-test.false ∙ whole
