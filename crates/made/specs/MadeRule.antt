-- The rule of mkpage: what it prints of a trace and of every other text; that its room is enough; and what it prints of the counts that unpage
-- printed of a page. Assumes nothing.
use Rattle.std.specs.Prelude.{◌≡◌, refl, List, ◌++◌, ◌⊎◌, ℕ, ◌*◌, ◌<◌, ◌≤◌, ℤ, length}
use Rattle.std.proofs.Common.{ap, inl, inr, arith, eq-eqb}
use Rattle.laws.specs.Laws.Lists.{tab-length}
use Rattle.page.specs.Page.{Page, page_text, num_line}
use Rattle.page.specs.Counts.{page_counts}
use Rattle.page.specs.Reader.{reading_of}
use Rattle.page.specs.PageRule.{text-longest}
use Rattle.page.specs.Laws.Form.{is_num_lem}
use Rattle.shown.specs.Shown.{printed}
use Rattle.trace.specs.Trace.{Trace}
use Rattle.trace.specs.Answer.{Reading, trace, malformed}
use Rattle.trace.specs.Reader.{trace_in}
use Rattle.trace.specs.TraceRule.{accepted, only_traces}
use Rattle.trace.specs.Unpage.{unpage-back}
use Rattle.writer.specs.Writer.{scale_of, word_for, words_for, text_of, written_of}
use Rattle.writer.specs.Laws.Answers.{when_8}
use Rattle.made.specs.Made.{refused_lines, page_or_refusal, made}

-- ---- every text
-- a trace: the page of its num and its blocks, or the writer's refusal
pub on_trace : (text : List ℕ) (num count : ℕ) (samples : List ℤ) → Trace text num count samples
    → made (trace_in text) ≡ page_or_refusal num count samples
unfolding made
on_trace text num count samples p = ap made (accepted text num count samples p)

-- any other text: the line refused=9 alone
pub on_no_trace : (text : List ℕ) → ((num count : ℕ) (samples : List ℤ) → Trace text num count samples → ⊥) → made (trace_in text) ≡ refused_lines 9 0
unfolding made
on_no_trace text h = go (trace_in text) refl
  where
    go : (R : Reading) → trace_in text ≡ R → made R ≡ refused_lines 9 0
    go (trace num count samples) e = absurd (h num count samples (only_traces text num count samples e))
    go malformed e = refl

-- ---- a trace that the writer accepts
pub on_accepted : (num count : ℕ) (samples : List ℤ) → (written_of num count samples 1189).number ≡ 0
    → page_or_refusal num count samples ≡ page_text num (words_for (scale_of num) samples count)
unfolding page_or_refusal text_of
on_accepted num count samples z = rw (eq-eqb _ 0 z)

-- ---- 1,189 bytes are room for every page, and a trace has 24 samples a block: so 8 is never printed
pub never_8 : (text : List ℕ) (num count : ℕ) (samples : List ℤ) → Trace text num count samples
    → (written_of num count samples 1189).number ≡ 8 → ⊥
unfolding text_of
never_8 text num count samples p e =
    let w = when_8 num count samples 1189 e in
    let l = text-longest num (words_for (scale_of num) samples count) (is_num_lem num w.0).1
    (omega (arith, w.1, tab-length ℕ (word_for (scale_of num) samples) count)) in
    go l w.2
  where
    go : length (page_text num (words_for (scale_of num) samples count)) ≤ 1189
        → (length samples < 24 * count) ⊎ (1189 < length (page_text num (words_for (scale_of num) samples count))) → ⊥
    go l (inl h) = omega (arith, p.size)
    go l (inr h) = omega arith

-- ---- the way back from unpage: what it prints of a page, behind the page's num line, is printed as the page of just those counts
pub from_unpage : (text : List ℕ) (num : ℕ) (words : List ℕ) → Page text num words
    → made (trace_in (num_line num ++ printed (reading_of text))) ≡ page_or_refusal num (length words) (page_counts num words)
from_unpage text num words p = on_trace _ num (length words) (page_counts num words) (unpage-back text num words p)
