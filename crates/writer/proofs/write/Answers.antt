-- `writer::write` meets its contract. Assumes nothing.
use mathlib.Core.Path.{◌≡◌, ap, ◌∙◌}
use mathlib.Core.Bool.{true}
use mathlib.Core.List.{List}
use Prim.Native.Nat.{ℕ, ◌*◌, ◌≤◌}
use native.Mathlib.Omega.{arith}
use borrow.Author.Rules.{rules}
use lib.Ieee.{Float}
use lib.IntN.{ℤ}
use lib.ListN.{length}
use Rattle.std.specs.Prelude.{Err}
use Rattle.std.proofs.lemmas.Result.{err_from_is_err_and}
use Rattle.page.specs.Form.{is_num}
use Rattle.writer.specs.Writer.{scale_of, is_wide, is_far, first_wide, first_far, words_for, refused_at, written_by}
use Rattle.writer.specs.declared.Unwritten.{Unwritten}
use Rattle.writer.specs.Laws.Answers.{bad_num, many, few_samples, wide, far}
use Rattle.writer.proofs.Answering.{num_refused, num_kept, met, formed}
use Rattle.writer.proofs.write.Goals as goal
use Rattle.writer.proofs.write.Goals.{Else-samples-count, In_default, In_default-first_block}

-- ---- what is known behind each test
-- the tests before the passes: num is good, there are at most 64 blocks, and samples enough
record Before (num count : ℕ) (xs : List ℤ) : Type 0 where
  good : is_num num ≡ true
  few : count ≤ 64
  enough : 24 * count ≤ length xs

before : (c : Else-samples-count) → Before c.args.num c.args.count c.args.samples.now
before c =
    record {
      good = num_kept c.args.num c.if-num.false;
      few = omega (arith, c.if-count-gt64.false);
      enough = omega (arith, c.if-samples-count.false);
    }

-- no block has a sample beyond 32767
narrow : (c : In_default) → c.args.count ≤ first_wide c.args.samples.now c.args.count
narrow c =
    let w : c.args.count ≡ first_wide c.args.samples.now c.args.count = c.in_default.ensures.value is_wide (λ b r p. search rules) in
    omega (arith, w)

-- no block is too far
near : (c : In_default-first_block) → c.args.count ≤ first_far (scale_of c.args.num) c.args.samples.now c.args.count
near c =
    let a = c.args in
    let s = c.scale_of-scale in
    let f : a.count ≡ first_far s.result a.samples.now a.count = c.in_default-first_block.ensures.value (is_far s.result) (λ b r p. search rules) in
    omega (arith, f ∙ ap (λ (x : Float). first_far x a.samples.now a.count) s.ensures)

pub returns-then-num : goal.returns-then-num
returns-then-num c =
    let a = c.args in
    met a.num a.count a.samples.now a.text.now _ _
    (bad_num a.num a.count a.samples.now a.text.now (num_refused a.num c.if-num.true)) (ap (λ (u : Unwritten). written_by (Err u)) c.from.ensures)

pub returns-then-count-gt64 : goal.returns-then-count-gt64
returns-then-count-gt64 c =
    let a = c.args in
    met a.num a.count a.samples.now a.text.now _ _
    (many a.num a.count a.samples.now a.text.now (num_kept a.num c.if-num.false) c.if-count-gt64.true)
    (ap (λ (u : Unwritten). written_by (Err u)) c.from-then-count-gt64.ensures)

pub returns-then-samples-count : goal.returns-then-samples-count
returns-then-samples-count c =
    let a = c.args in
    met a.num a.count a.samples.now a.text.now _ _
    (few_samples a.num a.count a.samples.now a.text.now (num_kept a.num c.if-num.false)
    c.if-count-gt64.false c.if-samples-count.true)
    (ap (λ (u : Unwritten). written_by (Err u)) c.from-then-samples-count.ensures)

pub returns-in-Some : goal.returns-in-Some
returns-in-Some c =
    let a = c.args in
    let n = before (goal.at.returns-in-Some c).Else-samples-count in
    let w : c.in-Some.wide ≡ first_wide a.samples.now a.count = c.in-Some.ensures.value is_wide (λ b r p. search rules) in
    met a.num a.count a.samples.now a.text.now _ _
    (wide a.num a.count a.samples.now a.text.now n.good n.few n.enough (omega (arith, c.in-Some.ensures.below, w)))
    (ap (refused_at 2) w)

pub returns-in-Some-first_block : goal.returns-in-Some-first_block
returns-in-Some-first_block c =
    let a = c.args in
    let n = before (goal.at.returns-in-Some-first_block c).Else-samples-count in
    let s = c.scale_of-scale in
    let p = c.in-Some-first_block in
    let q : p.far ≡ first_far s.result a.samples.now a.count = p.ensures.value (is_far s.result) (λ b r h. search rules) in
    let f = q ∙ ap (λ (x : Float). first_far x a.samples.now a.count) s.ensures in
    met a.num a.count a.samples.now a.text.now _ _
    (far a.num a.count a.samples.now a.text.now n.good n.few n.enough (narrow (goal.at.returns-in-Some-first_block c).In_default)
    (omega (arith, p.ensures.below, f)))
    (ap (refused_at 4) f)

-- what `form` answers and leaves is what `write` does
pub returns-in_err-length : goal.returns-in_err-length
returns-in_err-length c =
    let a = c.args in
    let n = before (goal.at.returns-in_err-length c).Else-samples-count in
    let w = c.words_for in
    let e = c.in_err-length.ensures in
    let p = err_from_is_err_and c.from_residual.result c.from_residual.ensures.1 in
    rw (p.1, p.2)
    (formed a.num a.count a.samples.now a.text.now n.good n.few n.enough (narrow (goal.at.returns-in_err-length c).In_default)
    (near (goal.at.returns-in_err-length c).In_default-first_block) w.result
    (w.ensures ∙ ap (λ (s : Float). words_for s a.samples.now a.count) c.scale_of-scale.ensures) _ _ e.value e.out_after)

pub returns : goal.returns
returns c =
    let a = c.args in
    let n = before (goal.at.returns c).Else-samples-count in
    let w = c.words_for in
    let e = c.in_ok-length.ensures in
    formed a.num a.count a.samples.now a.text.now n.good n.few n.enough (narrow (goal.at.returns c).In_default)
    (near (goal.at.returns c).In_default-first_block) w.result
    (w.ensures ∙ ap (λ (s : Float). words_for s a.samples.now a.count) c.scale_of-scale.ensures) _ _ e.value e.out_after
