-- No second answer fits: what a contract says of an answer of this crate leaves one. Assumes nothing.
use Rattle.std.specs.Prelude.{◌≡◌, refl, Bool, ◌&&◌, List, ℕ, ltb, ℤ, Option, Some, None, Result, Ok}
use Rattle.std.proofs.Common.{ap, ap₂, sym, ◌∙◌}
use Rattle.refusal.specs.declared.Refusal.{Refusal}
use Rattle.refusal.specs.Refusal.{number_in}
use Rattle.refusal.proofs.Once.{Tells, tells, tells-either, tells-record, once}
use Rattle.rank.specs.Vector.{ranks_below}
use Rattle.rank.specs.Answers.{
  Valued,
  valued_by,
  valued_of,
  Ranked,
  ranked_by,
  ranked_of,
  rank_in,
  lookup_number,
  Classed,
  classed_by,
  classed_of,
  Costed,
  costed_by,
  costed_of,
  Held,
  held_by,
  held_of,
}

-- ---- val
value-tells : (o rho : ℕ) → Tells (valued_of o rho).number
unfolding valued_of
value-tells o rho = tells-record (λ (r : Valued). r.number) (ltb o 4 && ltb rho 8) _ _ (tells 0 refl) (tells 7 refl)

pub one_value : (o rho : ℕ) (a b : Result ℤ Refusal) → valued_by a ≡ valued_of o rho → valued_by b ≡ valued_of o rho → a ≡ b
one_value o rho =
    once valued_by (λ (r : Valued). r.number)
    (record { accepted = λ v. refl; refused = λ r. refl; same = λ v w e. ap (λ (r : Valued). r.value) e }) (valued_of o rho) (value-tells o rho)

-- ---- rank_of: the case tells what an accepted call answers, the number why one is refused
lookup-tells : (o : ℕ) → Tells (lookup_number o)
unfolding lookup_number
lookup-tells o = tells-either (ltb o 4) _ _ (tells 0 refl) (tells 7 refl)

rank-back : (v : Option ℕ) → rank_in (ranked_by (Ok v)) ≡ v
rank-back (Some r) = refl
rank-back None = refl

pub one_rank : (o : ℕ) (y : ℤ) (a b : Result (Option ℕ) Refusal) → ranked_by a ≡ ranked_of o y → number_in a ≡ lookup_number o
    → ranked_by b ≡ ranked_of o y → number_in b ≡ lookup_number o → a ≡ b
one_rank o y a b p m q n =
    let both : Ranked → ℕ → Ranked × ℕ = λ r k. (r, k) in
    once (λ r. both (ranked_by r) (number_in r)) (λ (r : Ranked × ℕ). r.1)
    (record {
      accepted = λ v. refl;
      refused = λ r. refl;
      same = λ v w e. sym (rank-back v) ∙ ap (λ (r : Ranked × ℕ). rank_in r.0) e ∙ rank-back w;
    }) (both (ranked_of o y) (lookup_number o)) (lookup-tells o) a b (ap₂ both p m) (ap₂ both q n)

-- ---- rank_class
class-tells : (v : List ℕ) → Tells (classed_of v).number
unfolding classed_of
class-tells v = tells-record (λ (r : Classed). r.number) (ranks_below 8 v) _ _ (tells 0 refl) (tells 7 refl)

pub one_class : (v : List ℕ) (a b : Result ℕ Refusal) → classed_by a ≡ classed_of v → classed_by b ≡ classed_of v → a ≡ b
one_class v =
    once classed_by (λ (r : Classed). r.number)
    (record { accepted = λ c. refl; refused = λ r. refl; same = λ c d e. ap (λ (r : Classed). r.class) e }) (classed_of v) (class-tells v)

-- ---- cost
cost-tells : (v : List ℕ) → Tells (costed_of v).number
unfolding costed_of
cost-tells v = tells-record (λ (r : Costed). r.number) (ranks_below 16 v) _ _ (tells 0 refl) (tells 7 refl)

pub one_cost : (v : List ℕ) (a b : Result ℕ Refusal) → costed_by a ≡ costed_of v → costed_by b ≡ costed_of v → a ≡ b
one_cost v =
    once costed_by (λ (r : Costed). r.number)
    (record { accepted = λ c. refl; refused = λ r. refl; same = λ c d e. ap (λ (r : Costed). r.cost) e }) (costed_of v) (cost-tells v)

-- ---- contains
held-tells : (C : ℕ) (cut v : List ℕ) → Tells (held_of C cut v).number
unfolding held_of
held-tells C cut v = tells-record (λ (r : Held). r.number) (ranks_below 16 v) _ _ (tells 0 refl) (tells 7 refl)

pub one_verdict : (C : ℕ) (cut v : List ℕ) (a b : Result Bool Refusal) → held_by a ≡ held_of C cut v → held_by b ≡ held_of C cut v → a ≡ b
one_verdict C cut v =
    once held_by (λ (r : Held). r.number)
    (record { accepted = λ h. refl; refused = λ r. refl; same = λ h k e. ap (λ (r : Held). r.held) e }) (held_of C cut v) (held-tells C cut v)
