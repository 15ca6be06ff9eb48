-- What mkpage prints of the answers that `parse` and `write` give. Assumes nothing.
use mathlib.Core.Path.{◌≡◌, refl, ap, sym, ◌∙◌}
use mathlib.Core.List.{List, [], ◌++◌}
use Prim.Native.Nat.{ℕ, ◌≤◌}
use native.Mathlib.Omega.{arith}
use borrow.Author.Tests.{eq-eqb, ne_eqb}
use lib.IntN.{ℤ}
use lib.ListN.{length, take, drop, replicate, length-replicate}
use lib.Dec.{eqb}
use mathlib.Core.Bool.{cond}
use lib.Seq.{take-append_seam, length-take-le}
use Rattle.std.specs.Prelude.{Result, Ok, Err}
use Rattle.refusal.specs.Laws.{never_0}
use Rattle.text.specs.Printed.{appended}
use Rattle.text.specs.Laws.Printed.{appended_is}
use Rattle.writer.specs.declared.Unwritten.{Unwritten}
use Rattle.trace.specs.Answer.{Traced, traced_of}
use Rattle.trace.specs.Reader.{trace_in}
use Rattle.trace.specs.Laws.Answer.{refused-number}
use Rattle.writer.specs.Writer.{Written, written_by, text_of, written_of, text_after}
use Rattle.writer.specs.WriterRule.{written-longest}
use Rattle.writer.specs.Laws.Answers.{when_0}
use Rattle.made.specs.Made.{refused_lines, page_or_refusal, made}

abbrev pub zeros : List ℕ
zeros = replicate 1189 0

-- no trace
pub prints_no_trace : (text : List ℕ) (p : Traced) → p ≡ traced_of (trace_in text) → (p.number ≡ 0 → ⊥)
    → refused_lines p.number 0 ≡ made (trace_in text)
unfolding made
prints_no_trace text p e h =
    let r = refused-number (trace_in text) p e h in
    rw (r.0, r.1)

-- a trace: what the writer answers and leaves where it has zeros and room for 1,189 bytes
module _ (num count : ℕ) (samples : List ℤ) (w : Written) (e : w ≡ written_of num count samples (length zeros)) (array : List ℕ)
    (s : array ≡ text_after num count samples zeros) where
  answer : w ≡ written_of num count samples 1189
  answer = e ∙ ap (written_of num count samples) (length-replicate {A = ℕ} 1189 0)

  number : w.number ≡ (written_of num count samples 1189).number
  number = ap (λ (a : Written). a.number) answer

  pub prints_refusal : (w.number ≡ 0 → ⊥) → refused_lines w.number w.block ≡ page_or_refusal num count samples
  unfolding page_or_refusal
  prints_refusal h = rw (ne_eqb _ 0 (λ z. h (number ∙ z)), number, ap (λ (a : Written). a.block) answer)

  pub prints_page : w.number ≡ 0 → (take w.length array ≡ page_or_refusal num count samples) × (w.length ≤ 1189)
  unfolding page_or_refusal text_after
  prints_page h =
      let y : (written_of num count samples (length zeros)).number ≡ 0 = sym (ap (λ (a : Written). a.number) e) ∙ h in
      let z : (written_of num count samples 1189).number ≡ 0 = sym number ∙ h in
      let page = text_of num count samples in
      let l : w.length ≡ length page = ap (λ (a : Written). a.length) answer ∙ (when_0 num count samples 1189 z).size in
      let b : array ≡ page ++ drop (length page) zeros = s ∙ rw (eq-eqb _ 0 y) refl in
      (rw (eq-eqb _ 0 z, l, b) (take-append_seam page (drop (length page) zeros)), omega (arith, ap (λ (a : Written). a.length) e, written-longest num count samples zeros y))

-- a page alone in an array with room for it
pub page_alone : (n : ℕ) (bytes : List ℕ) → n ≤ length bytes → n ≤ 1189 → appended 1189 [] (take n bytes) ≡ take n bytes
page_alone n bytes h m = appended_is 1189 [] (take n bytes) (omega (arith, m, length-take-le n bytes h))

-- the writer's answer: its length is at most 1,189, and what is printed for it is the page or the refusal
pub answer_fits : (num count : ℕ) (samples : List ℤ) (r : Result ℕ Unwritten) (array : List ℕ) → written_by r ≡ written_of num count samples (length zeros)
    → array ≡ text_after num count samples zeros → (written_by r).length ≤ 1189
answer_fits num count samples (Ok n) array e s = (prints_page num count samples (written_by (Ok n)) e array s refl).1
answer_fits num count samples (Err u) array e s = omega arith

pub answer_printed : (num count : ℕ) (samples : List ℤ) (r : Result ℕ Unwritten) (array : List ℕ) → written_by r ≡ written_of num count samples (length zeros)
    → array ≡ text_after num count samples zeros
    → cond (eqb (written_by r).number 0) (take (written_by r).length array) (refused_lines (written_by r).number (written_by r).block)
    ≡ page_or_refusal num count samples
answer_printed num count samples (Ok n) array e s = (prints_page num count samples (written_by (Ok n)) e array s refl).0
answer_printed num count samples (Err u) array e s =
    let h = never_0 u.refusal in
    rw (ne_eqb _ 0 h) (prints_refusal num count samples (written_by (Err u)) e array s h)
