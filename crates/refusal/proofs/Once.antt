-- No second answer fits. The record of an answer keeps what an accepted call answers, and of a refusal the number alone. That tells the reason
-- where the number is not 11, which each section has. Assumes nothing.
use Rattle.std.specs.Prelude.{◌≡◌, refl, Bool, true, false, cond, ℕ, eqb, Result, Ok, Err}
use Rattle.std.proofs.Common.{ap, sym, ◌∙◌}
use Rattle.std.proofs.lemmas.Bool.{eqb-false}
use Rattle.refusal.specs.declared.Refusal.{Refusal}
use Rattle.refusal.specs.Refusal.{outside, number_of, number_in}
use Rattle.refusal.proofs.Apart.{told_by_number, told_at_all}

-- a number that tells its reason
abbrev pub Tells : ℕ → Type 0
Tells n = n ≡ outside → ⊥

pub tells : (n : ℕ) → eqb n outside ≡ false → Tells n
tells n e = eqb-false n outside e

-- one of two such, and that of one of two records
pub tells-either : (b : Bool) (m n : ℕ) → Tells m → Tells n → Tells (cond b m n)
tells-either true m n h k = h
tells-either false m n h k = k

pub tells-record : {B : Type 0} (number : B → ℕ) (b : Bool) (x y : B) → Tells (number x) → Tells (number y) → Tells (number (cond b x y))
tells-record number true x y h k = h
tells-record number false x y h k = k

-- the record of an answer, `by`, has its number, and of two accepted answers it tells which it is
pub record Recorded {A B : Type 0} (by : Result A Refusal → B) (number : B → ℕ) : Type 0 where
  pub accepted : (v : A) → number (by (Ok v)) ≡ 0
  pub refused : (r : Refusal) → number (by (Err r)) ≡ number_of r
  pub same : (v w : A) → by (Ok v) ≡ by (Ok w) → v ≡ w

pub once : {A B : Type 0} (by : Result A Refusal → B) (number : B → ℕ) → Recorded by number → (x : B) → Tells (number x) → (a b : Result A Refusal)
    → by a ≡ x → by b ≡ x → a ≡ b
once {A} by number k x t (Ok v) (Ok w) p q =
    let ok : A → Result A Refusal = λ z. Ok z in
    ap ok (k.same v w (p ∙ sym q))
once by number k x t (Ok v) (Err s) p q = absurd (told_at_all s (sym (k.refused s) ∙ ap number (q ∙ sym p) ∙ k.accepted v))
once by number k x t (Err r) (Ok w) p q = absurd (told_at_all r (sym (k.refused r) ∙ ap number (p ∙ sym q) ∙ k.accepted w))
once {A} by number k x t (Err r) (Err s) p q =
    let err : Refusal → Result A Refusal = λ z. Err z in
    ap err (told_by_number r s (sym (k.refused r) ∙ ap number (p ∙ sym q) ∙ k.refused s) (λ e. t (sym (ap number q) ∙ k.refused s ∙ e)))

-- the same where nothing but the number is kept: a call that is accepted answers nothing
pub checked_once : (n : ℕ) → Tells n → (a b : Result (Unit {0}) Refusal) → number_in a ≡ n → number_in b ≡ n → a ≡ b
checked_once n t a b p q = once number_in (λ m. m) (record { accepted = λ v. refl; refused = λ r. refl; same = λ v w e. refl }) n t a b p q
