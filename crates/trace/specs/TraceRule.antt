-- The trace rule: the reader accepts just the texts that Trace.antt calls traces, each with its num and its samples. Assumes nothing.
use Rattle.std.specs.Prelude.{◌≡◌, refl, Bool, true, false, List, ◌++◌, ℕ, ◌+◌, ◌*◌, ◌^◌, ◌<◌, ◌≤◌, ltb, ℤ, length, take}
use Rattle.std.proofs.Common.{ap, ap₂, sym, ◌∙◌, arith, ltb-true, ltb-false, length-append, take_all, length-take-le}
use Rattle.text.specs.Text.{bytes, decimal}
use Rattle.text.specs.Rows.{AllI32}
use Rattle.text.specs.Laws.Text.{decimal-fits}
use Rattle.text.specs.Laws.Lines.{decimal-rule, step, taken}
use Rattle.page.specs.Page.{num_line}
use Rattle.shown.specs.Shown.{block_texts}
use Rattle.trace.specs.Trace.{Trace, trace_text}
use Rattle.trace.specs.Answer.{Reading, trace, malformed}
use Rattle.trace.specs.Reader.{blocks_at, trace_in}
use Rattle.trace.specs.Laws.Reader.{differ, blocks-back, blocks_only, texts-length}

-- ---- each num, and each row of samples of at most 64 blocks, have a trace
pub trace_of : (num count : ℕ) (samples : List ℤ) → num < 2 ^ 32 → count ≤ 64 → length samples ≡ 24 * count → AllI32 samples
    → Trace (trace_text num count samples) num count samples
trace_of num count samples a b c f = record { num_most = a; count_most = b; size = c; samples_fit = f; text_is = refl }

-- ---- from a trace to its reading
pub accepted : (text : List ℕ) (num count : ℕ) (samples : List ℤ) → Trace text num count samples → trace_in text ≡ trace num count samples
unfolding trace_in trace_text num_line
accepted text num count samples p =
    ap trace_in p.text_is
    ∙ step malformed _ _ _ (decimal-rule (bytes "num=") 0 4294967295) num (omega arith, omega (arith, p.num_most)) (block_texts 0 count samples)
    (λ x t. blocks_at x 0 64 t)
    ∙ blocks-back num 0 64 count samples p.count_most p.size p.samples_fit

-- ---- from a reading to its trace
pub only_traces : (text : List ℕ) (num count : ℕ) (samples : List ℤ) → trace_in text ≡ trace num count samples → Trace text num count samples
unfolding trace_in trace_text num_line
only_traces text num count samples e =
    let a = taken malformed _ _ _ (decimal-rule (bytes "num=") 0 4294967295) text (λ x t. blocks_at x 0 64 t) (trace num count samples) differ e in
    let b = blocks_only a.0 0 64 a.1 num count samples a.4 in
    record {
      num_most = omega (arith, a.2.1, b.num_is);
      count_most = b.few;
      size = b.size;
      samples_fit = b.fit;
      text_is = a.3 ∙ ap₂ (λ (x : ℕ) (l : List ℕ). num_line x ++ l) b.num_is b.text;
    }

-- ---- what a text is
-- the text is the trace of num and the blocks; or it is none, for any of them
abbrev pub Reads : List ℕ → Reading → Type 0
Reads text (trace num count samples) = Trace text num count samples
Reads text malformed = (num count : ℕ) (samples : List ℤ) → Trace text num count samples → ⊥

-- the reader is right about every text
pub reads : (text : List ℕ) → Reads text (trace_in text)
reads text = go (trace_in text) refl
  where
    go : (R : Reading) → trace_in text ≡ R → Reads text R
    go (trace num count samples) e = only_traces text num count samples e
    go malformed e = λ num count samples p. differ (sym e ∙ accepted text num count samples p)

-- one text has at most one num, one count of blocks and one row of samples
pub one_trace : (text : List ℕ) (num x count c : ℕ) (samples s : List ℤ) → Trace text num count samples → Trace text x c s
    → (num ≡ x) × (count ≡ c) × (samples ≡ s)
one_trace text num x count c samples s p q =
    let e = sym (accepted text num count samples p) ∙ accepted text x c s q in
    (cc, cc, cc)

-- ---- the longest trace has 19,461 bytes
pub longest : (text : List ℕ) (num count : ℕ) (samples : List ℤ) → Trace text num count samples → length text ≤ 19461
unfolding trace_text num_line
longest text num count samples p =
    let e : length (trace_text num count samples) ≡ 5 + length (decimal num) + length (block_texts 0 count samples) =
    simp length-append (omega arith) in
    omega (arith, ap length p.text_is, e, decimal-fits 9 num (omega (arith, p.num_most)), blocks (ltb count 10) refl)
  where
    blocks : (b : Bool) → ltb count 10 ≡ b → length (block_texts 0 count samples) ≤ 19446
    blocks true h =
        let l = ltb-true count 10 h in
        omega (arith, texts-length 0 count 0 samples (omega arith) (λ z. absurd (omega arith)) (omega arith) p.size p.samples_fit)
    blocks false h =
        let l = ltb-false count 10 h in
        omega (arith, p.count_most, texts-length 10 count 0 samples l (λ z. omega arith) (omega (arith, p.count_most)) p.size p.samples_fit)

-- so a text of 19,462 bytes or more is no trace, and its first 19,462 bytes tell as much
too_long : (text : List ℕ) → 19462 ≤ length text → trace_in text ≡ malformed
too_long text h = go (trace_in text) refl
  where
    go : (R : Reading) → trace_in text ≡ R → R ≡ malformed
    go (trace num count samples) e = absurd (omega (arith, longest text num count samples (only_traces text num count samples e)))
    go malformed e = refl

pub start_tells : (text : List ℕ) → trace_in (take 19462 text) ≡ trace_in text
start_tells text = go (ltb (length text) 19462) refl
  where
    go : (b : Bool) → ltb (length text) 19462 ≡ b → trace_in (take 19462 text) ≡ trace_in text
    go true e = ap trace_in (take_all 19462 text (omega (arith, ltb-true (length text) 19462 e)))
    go false e =
        let h = ltb-false (length text) 19462 e in
        too_long (take 19462 text) (omega (arith, length-take-le 19462 text h)) ∙ sym (too_long text h)
