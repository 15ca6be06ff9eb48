-- `line::decimal` meets its contract. Assumes nothing.
use borrow.Author.Tests.{lt-ltb, le-ltb, ne_eqb, eq-eqb}
use mathlib.Core.Path.{◌≡◌, sym, ◌∙◌}
use Prim.Native.Nat.{◌+◌, ◌*◌, ◌-◌}
use native.Mathlib.Omega.{arith}
use lib.ListN.{drop, get_or}
use Rattle.text.specs.Lines.{decimal_at}
use Rattle.text.proofs.Reading.{by_byte, too_large_lem, behind_zero, one_more, decimal_step, decimal_end}
use Rattle.text.proofs.line.decimal.Goals as goal
use Rattle.text.proofs.line.decimal.Goals.{In-loop-j}

-- what reading the whole gives, in terms of the next byte
whole : (c : In-loop-j)
    → let s = c.args.s.now in
    let end = c.args.end in
    let most = c.args.most in
    let v = c.loop-j.v in
    let j = c.loop-j.j in
    decimal_at end most 0 0 s
    ≡ by_byte end most v j (get_or s j 0) (decimal_at end most (v * 10 + (get_or s j 0 - 48)) (j + 1) (drop (j + 1) s))
whole c =
    let a = c.args in
    let l = c.loop-j in
    sym l.invariant.1 ∙ decimal_step a.end a.most l.v l.j a.s.now (omega arith)

pub returns-then-j-eq0 : goal.returns-then-j-eq0
returns-then-j-eq0 c =
    sym (whole (goal.at.returns-then-j-eq0 c).In-loop-j ∙ rw (eq-eqb _ _ c.if-b-end.true, eq-eqb _ _ c.if-j-eq0.true))

pub returns-then-b-end : goal.returns-then-b-end
returns-then-b-end c =
    sym (whole (goal.at.returns-then-b-end c).In-loop-j ∙ rw (eq-eqb _ _ c.if-b-end.true, ne_eqb _ _ c.if-j-eq0.false))

pub returns-then-b-lt48 : goal.returns-then-b-lt48
returns-then-b-lt48 c =
    sym (whole (goal.at.returns-then-b-lt48 c).In-loop-j ∙ rw (ne_eqb _ _ c.if-b-end.false, lt-ltb _ _ c.if-b-lt48.true))

pub returns-then-b-gt57 : goal.returns-then-b-gt57
returns-then-b-gt57 c =
    sym (whole (goal.at.returns-then-b-gt57 c).In-loop-j
    ∙ rw (ne_eqb _ _ c.if-b-end.false, le-ltb _ _ c.if-b-lt48.false, lt-ltb _ _ c.if-b-gt57.true))

pub returns-then-most-next : goal.returns-then-most-next
returns-then-most-next c =
    too_large_lem c.loop-j.j _ _ _ _ _ _ (whole (goal.at.returns-then-most-next c).In-loop-j) c.if-b-end.false c.if-b-lt48.false c.if-b-gt57.false c.if-most-next.true

pub returns-then-j-v : goal.returns-then-j-v
returns-then-j-v c =
    behind_zero c.loop-j.j _ _ _ _ _ _ (whole (goal.at.returns-then-j-v c).In-loop-j) c.if-b-end.false c.if-b-lt48.false c.if-b-gt57.false
    c.if-most-next.false c.if-j-v.true

pub loop-j-preserved : goal.loop-j-preserved
loop-j-preserved c = (
  omega arith,
  one_more c.loop-j.j _ _ _ _ _ _ (whole (goal.at.loop-j-preserved c).In-loop-j) c.if-b-end.false c.if-b-lt48.false c.if-b-gt57.false
      c.if-most-next.false c.if-j-v.false,
)

pub returns : goal.returns
returns c =
    let a = c.args in
    let l = c.loop-j in
    sym (sym l.invariant.1 ∙ decimal_end a.end a.most l.v l.j a.s.now (omega arith))
