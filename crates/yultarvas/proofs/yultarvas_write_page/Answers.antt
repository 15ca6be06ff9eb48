-- `yultarvas::yultarvas_write_page` meets its contract: number and block are small, so they stand beside each other in 64 bits. Assumes nothing.
use mathlib.Core.Path.{◌≡◌, sym, ap, ◌∙◌}
use native.Mathlib.Omega.{arith}
use Prim.Native.Nat.{ℕ, ◌<◌, ◌≤◌}
use lib.ListN.{length}
use Rattle.std.specs.Prelude.{Err}
use Rattle.refusal.specs.Refusal.{number_of}
use Rattle.refusal.specs.Laws.{never_0}
use Rattle.writer.specs.Writer.{Written, written_by, written_of}
use Rattle.writer.specs.WriterRule.{block-lt}
use Rattle.writer.specs.Laws.Answers.{number-le}
use Rattle.yultarvas.specs.Laws.Room.{left_new, left_old}
use Rattle.yultarvas.proofs.yultarvas_write_page.Goals as goal
use Rattle.yultarvas.proofs.yultarvas_write_page.Goals.{In-Err}

record Small (w : Written) : Type 0 where
  number : w.number ≤ 9
  block : w.block < 64

small : (c : In-Err) → Small (written_by (Err c.in-Err.why))
small c =
    let a = c.args in
    let e = c.in-Err.ensures.value in
    record {
      number = omega (arith, ap (λ (w : Written). w.number) e, number-le a.num a.count a.samples.now (length a.text.now));
      block = omega (arith, ap (λ (w : Written). w.block) e, block-lt a.num a.count a.samples.now a.text.now);
    }

pub overflow_mul-result : goal.overflow_mul-result
overflow_mul-result c = omega (arith, (small (goal.at.overflow_mul-result c).In-Err).block)

pub overflow_add-result : goal.overflow_add-result
overflow_add-result c =
    let s = small (goal.at.overflow_add-result c).In-Err in
    omega (arith, s.block, s.number, c.number.ensures)

pub returns-in-Err : goal.returns-in-Err
returns-in-Err c =
    let a = c.args in
    let e = c.in-Err.ensures.value in
    let r = c.in-Err.why.refusal in
    let q = written_of a.num a.count a.samples.now (length a.text.now) in
    let n : number_of r ≡ q.number = ap (λ (x : Written). x.number) e in
    let k : c.in-Err.why.block ≡ q.block = ap (λ (x : Written). x.block) e in record {
      value = omega (arith, n, k, c.number.ensures);
      text_after = c.in-Err.ensures.text_after;
      length_after = left_old ℕ q.number q.length a.length.now (λ z. never_0 r (n ∙ z));
    }

pub returns-in-Ok : goal.returns-in-Ok
returns-in-Ok c =
    let w = c.write in
    let a = c.args in
    let e = c.in-Ok.ensures.value in
    let q = written_of a.num a.count a.samples.now (length a.text.now) in
    let n : q.number ≡ 0 = sym (ap (λ (x : Written). x.number) e) in
    let k : q.block ≡ 0 = sym (ap (λ (x : Written). x.block) e) in record {
      value = omega (arith, n, k);
      text_after = c.in-Ok.ensures.text_after;
      length_after = ap (λ (x : Written). x.length) e ∙ left_new ℕ q.number q.length a.length.now n;
    }
