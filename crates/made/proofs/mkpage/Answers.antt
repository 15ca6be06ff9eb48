-- `mkpage` meets its contract: what it prints follows from what `parse` and `write` answer. Assumes nothing.
use native.Mathlib.Omega.{arith}
use mathlib.Core.Path.{◌≡◌, ◌∙◌}
use mathlib.Core.List.{List}
use Prim.Native.Nat.{ℕ}
use Rattle.std.specs.Prelude.{Ok, Err}
use Rattle.refusal.specs.Laws.{never_0}
use Rattle.trace.specs.Answer.{Traced, traced_by}
use Rattle.trace.specs.Reader.{trace_in}
use Rattle.trace.specs.Laws.Answer.{Accepted, read-trace}
use Rattle.made.specs.Made.{page_or_refusal, made}
use Rattle.made.proofs.Making.{prints_no_trace, answer_fits, answer_printed}
use Rattle.made.proofs.mkpage.Goals as goal
use Rattle.made.proofs.mkpage.Goals.{In-Ok}

-- the text is a trace
held : (c : In-Ok) → Accepted c.args.text.now (traced_by (Ok c.in-Ok.trace))
held c = read-trace c.args.text.now c.in-Ok.trace c.in-Ok.ensures

-- what is printed for it is what the writer gives
shows : {text : List ℕ} (p : Traced) (a : Accepted text p) → page_or_refusal p.num p.count a.samples ≡ made (trace_in text)
unfolding made
shows p a = rw a.reading

pub returns-in-Err : goal.returns-in-Err
returns-in-Err c = c.refused_lines.ensures ∙ prints_no_trace _ (traced_by (Err c.in-Err.refusal)) c.in-Err.ensures (never_0 c.in-Err.refusal)

pub written_lines-requires : goal.written_lines-requires
written_lines-requires c =
    let p = c.in-Ok.trace in
    let a = held (goal.at.written_lines-requires c).In-Ok in
    let s = c.samples.ensures ∙ a.front in
    let w = c.write-written in
    let h = answer_fits p.num p.count a.samples w.result w.new.text (rw s at w.ensures.value) (rw s at w.ensures.text_after) in
    (omega (arith, h, w.auto.text), h)

pub returns : goal.returns
returns c =
    let p = c.in-Ok.trace in
    let a = held (goal.at.returns c).In-Ok in
    let s = c.samples.ensures ∙ a.front in
    let w = c.write-written in
    c.written_lines.ensures ∙ answer_printed p.num p.count a.samples w.result w.new.text (rw s at w.ensures.value) (rw s at w.ensures.text_after)
    ∙ shows (traced_by (Ok p)) a
