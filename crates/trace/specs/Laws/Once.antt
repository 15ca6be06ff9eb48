-- No second answer fits: what the contract of `parse` says of its answer leaves one. Assumes nothing.
use Rattle.std.specs.Prelude.{◌≡◌, refl, List, ℕ, ◌≤◌, ℤ, Result}
use Rattle.std.proofs.Common.{ap, subst}
use Rattle.std.proofs.Math.Bridge.{le_prop}
use Rattle.refusal.specs.declared.Refusal.{Refusal}
use Rattle.refusal.proofs.Once.{Tells, tells, once}
use Rattle.trace.specs.declared.content.Trace.{Trace}
use Rattle.trace.specs.Answer.{Traced, traced_by, Reading, trace, malformed, traced_of}

-- two traces of one num, one count and the same samples are one: their ghost field is a proof of an order, of which there is one
abbrev WithProof : Trace → ℕ → ℕ → List ℤ → Type 0
WithProof t n k xs = (f : k ≤ 64) → t ≡ record { num = n; count = k; samples = xs; few = f }

own_proof : (t : Trace) → WithProof t t.num t.count t.samples
own_proof t f =
    ap {B = Trace} (λ (e : t.count ≤ 64). record { num = t.num; count = t.count; samples = t.samples; few = e }) (le_prop t.few f)

same_trace : (t u : Trace) → t.num ≡ u.num → t.count ≡ u.count → t.samples ≡ u.samples → t ≡ u
same_trace t u n k xs =
    subst (λ (x : ℕ). WithProof t x u.count u.samples) n
    (subst (λ (x : ℕ). WithProof t t.num x u.samples) k
    (subst (λ (x : List ℤ). WithProof t t.num t.count x) xs (own_proof t))) u.few

trace-tells : (R : Reading) → Tells (traced_of R).number
unfolding traced_of
trace-tells (trace num count samples) = tells 0 refl
trace-tells malformed = tells 9 refl

pub one_trace : (R : Reading) (a b : Result Trace Refusal) → traced_by a ≡ traced_of R → traced_by b ≡ traced_of R → a ≡ b
one_trace R =
    once traced_by (λ (r : Traced). r.number)
    (record {
      accepted = λ v. refl;
      refused = λ r. refl;
      same = λ v w e. same_trace v w (ap (λ (r : Traced). r.num) e) (ap (λ (r : Traced). r.count) e) (ap (λ (r : Traced). r.samples) e);
    }) (traced_of R) (trace-tells R)
