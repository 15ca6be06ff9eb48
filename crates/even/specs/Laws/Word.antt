-- A word's number by its p, which is its lowest bit and the parity of its point. Assumes nothing.
use Rattle.std.specs.Prelude.{◌≡◌, refl, ◌⊎◌, ◌↔◌, Bool, true, false, cond, ℕ, ◌%◌, eqb}
use Rattle.std.proofs.Common.{ap, sym, ◌∙◌, inl, inr, div-one, arith, eqb-true}
use Rattle.std.proofs.lemmas.Bool.{eqb-false}
use Rattle.refusal.specs.Refusal.{all_odd}
use Rattle.word.specs.Word.{field_at, fields_of}
use Rattle.even.specs.Even.{word_number}

p_is : (w : ℕ) → (fields_of w).p ≡ w % 2
unfolding field_at
p_is w = ap (λ (n : ℕ). n % 2) (div-one w)

-- a word is even and accepted, or odd and refused
pub by_parity : (w : ℕ) → ((w % 2 ≡ 0) × (word_number w ≡ 0)) ⊎ ((w % 2 ≡ 1) × (word_number w ≡ all_odd))
unfolding word_number
by_parity w = go (eqb (fields_of w).p 0) refl
  where
    go : (b : Bool) → eqb (fields_of w).p 0 ≡ b → ((w % 2 ≡ 0) × (cond b 0 all_odd ≡ 0)) ⊎ ((w % 2 ≡ 1) × (cond b 0 all_odd ≡ all_odd))
    go true e = inl (sym (p_is w) ∙ eqb-true (fields_of w).p 0 e, refl)
    go false e =
        let d : w % 2 ≡ 0 → ⊥ = λ q. eqb-false (fields_of w).p 0 e (p_is w ∙ q) in
        inr (omega (arith, d), refl)

pub number_zero : (w : ℕ) → (word_number w ≡ 0) ↔ (w % 2 ≡ 0)
number_zero w = go (by_parity w)
  where
    go : ((w % 2 ≡ 0) × (word_number w ≡ 0)) ⊎ ((w % 2 ≡ 1) × (word_number w ≡ all_odd)) → (word_number w ≡ 0) ↔ (w % 2 ≡ 0)
    go (inl e) = (λ q. e.0, λ q. e.1)
    go (inr o) = (λ q. absurd (omega (arith, o.1, q)), λ q. absurd (omega (arith, o.0, q)))

pub number-odd : (w : ℕ) → (word_number w ≡ all_odd) ↔ (w % 2 ≡ 1)
number-odd w = go (by_parity w)
  where
    go : ((w % 2 ≡ 0) × (word_number w ≡ 0)) ⊎ ((w % 2 ≡ 1) × (word_number w ≡ all_odd)) → (word_number w ≡ all_odd) ↔ (w % 2 ≡ 1)
    go (inl e) = (λ q. absurd (omega (arith, e.1, q)), λ q. absurd (omega (arith, e.0, q)))
    go (inr o) = (λ q. o.0, λ q. o.1)
