-- What the answer of `parse` tells of a text. Assumes nothing.
use Rattle.std.specs.Prelude.{◌≡◌, refl, List, ℕ, ◌*◌, ℤ, take, Ok, Err}
use Rattle.std.proofs.Common.{ap, arith, take_at}
use Rattle.refusal.specs.declared.Refusal.{Refusal}
use Rattle.refusal.specs.Refusal.{number_of}
use Rattle.refusal.specs.Laws.{never_0}
use Rattle.trace.specs.declared.content.Trace as content
use Rattle.trace.specs.Trace.{Trace}
use Rattle.trace.specs.Answer.{Traced, traced_by, Reading, trace, malformed, traced_of}
use Rattle.trace.specs.Reader.{trace_in}
use Rattle.trace.specs.TraceRule.{only_traces}

-- a number other than 0 is 9, for no trace
pub refused-number : (R : Reading) (p : Traced) → p ≡ traced_of R → (p.number ≡ 0 → ⊥) → (R ≡ malformed) × (p.number ≡ 9)
unfolding traced_of
refused-number (trace num count samples) p e h = absurd (h (ap (λ (q : Traced). q.number) e))
refused-number malformed p e h = (refl, ap (λ (q : Traced). q.number) e)

-- number 0: a trace, its num, its count and its samples
pub record Accepted (text : List ℕ) (p : Traced) : Type 0 where
  pub samples : List ℤ
  pub front : take (24 * p.count) p.samples ≡ samples
  pub reading : trace_in text ≡ trace p.num p.count samples
  pub is_trace : Trace text p.num p.count samples

pub some-trace : (text : List ℕ) (p : Traced) → p ≡ traced_of (trace_in text) → p.number ≡ 0 → Accepted text p
unfolding traced_of
some-trace text p e h = go (trace_in text) refl e
  where
    go : (R : Reading) → trace_in text ≡ R → p ≡ traced_of R → Accepted text p
    go (trace num count samples) r e =
        let n : p.num ≡ num = ap (λ (q : Traced). q.num) e in
        let k : p.count ≡ count = ap (λ (q : Traced). q.count) e in
        let s = ap (λ (q : Traced). q.samples) e in
        let g = only_traces text num count samples r in
        record {
          samples = samples;
          front = rw (k, s) (take_at samples _ (24 * count) g.size);
          reading = rw (n, k) r;
          is_trace = rw (n, k) g;
        }
    go malformed r e = absurd (omega (arith, ap (λ (q : Traced). q.number) e))

-- the same of the answer itself: a reason is that of no trace, and a trace is the one that the text is
pub refused-reason : (R : Reading) (r : Refusal) → traced_by (Err r) ≡ traced_of R → (R ≡ malformed) × (number_of r ≡ 9)
refused-reason R r e = refused-number R (traced_by (Err r)) e (never_0 r)

pub read-trace : (text : List ℕ) (t : content.Trace) → traced_by (Ok t) ≡ traced_of (trace_in text) → Accepted text (traced_by (Ok t))
read-trace text t e = some-trace text (traced_by (Ok t)) e refl
