-- A number looked up in a list: where it stands nowhere, where no number stands twice, and what `look_up` answers. Assumes nothing.
use Rattle.std.specs.Prelude.{◌≡◌, refl, Bool, true, false, cond, ◌↔◌, List, [], ℕ, ◌<◌, T, eqb, ltb, length, get_or}
use Rattle.std.proofs.Common.{◌∙◌, sym, ap, arith, lt-ltb, le-ltb, ltb-true, ltb-false, eqb→eq}
use Rattle.std.proofs.Math.Decide.{ℕ_discrete}
use Rattle.laws.specs.Words.{seek}
use Rattle.laws.specs.Laws.Lists.{seek-le, seek-holds, seek-first}
use Rattle.laws.specs.Laws.Tables.{every, at}
use Rattle.trellis.specs.Trellis.{look_up}

pub seek-none : (c : ℕ) (xs : List ℕ) → ((i : ℕ) → i < length xs → get_or xs i 0 ≡ c → ⊥) → seek c xs ≡ length xs
seek-none c xs n = go (ℕ_discrete (seek c xs) (length xs))
  where
    go : Dec (seek c xs ≡ length xs) → seek c xs ≡ length xs
    go (yes e) = e
    go (no m) =
        let h : seek c xs < length xs = omega (arith, seek-le c xs) in
        absurd (n (seek c xs) h (seek-holds c xs h))

-- no number stands twice
abbrev pub Distinct : List ℕ → Type 0
Distinct xs = (i j : ℕ) → i < length xs → j < length xs → get_or xs i 0 ≡ get_or xs j 0 → i ≡ j

pub seek_is : (c : ℕ) (xs : List ℕ) → Distinct xs → (i : ℕ) → i < length xs → get_or xs i 0 ≡ c → seek c xs ≡ i
seek_is c xs d i h e =
    let l : seek c xs < length xs = omega (arith, seek-first c xs i h e) in
    d (seek c xs) i l h (seek-holds c xs l ∙ sym e)

-- ---- no entry stands twice: each is found at its own place, or they ascend
pub found_distinct : (xs : List ℕ) → T (every (λ (i x : ℕ). eqb (seek x xs) i) 0 xs) → Distinct xs
found_distinct xs t i j h k e =
    sym (eqb→eq (seek (get_or xs i 0) xs) i (at (λ (m x : ℕ). eqb (seek x xs) m) xs t i h)) ∙ ap (λ (x : ℕ). seek x xs) e
    ∙ eqb→eq (seek (get_or xs j 0) xs) j (at (λ (m x : ℕ). eqb (seek x xs) m) xs t j k)

pub up_distinct : (xs : List ℕ) → ((i j : ℕ) → i < j → j < length xs → get_or xs i 0 < get_or xs j 0) → Distinct xs
up_distinct xs up i j h k e = omega (arith, before, after)
  where
    before : i < j → ⊥
    before l = omega (arith, up i j l k)

    after : j < i → ⊥
    after l = omega (arith, up j i l h)

-- ---- the answer
module _ (A : Type 0) (f : ℕ → A) (none : A) (xs : List ℕ) (c : ℕ) where
  pub look_at : Distinct xs → (i : ℕ) → i < length xs → get_or xs i 0 ≡ c → look_up f none xs c ≡ f i
  look_at d i h e =
      let q = seek_is c xs d i h e in
      ap (λ (b : Bool). cond b (f (seek c xs)) none) (lt-ltb (seek c xs) (length xs) (omega arith)) ∙ ap f q

  pub look_none : ((i : ℕ) → i < length xs → get_or xs i 0 ≡ c → ⊥) → look_up f none xs c ≡ none
  look_none n =
      ap (λ (b : Bool). cond b (f (seek c xs)) none) (le-ltb (seek c xs) (length xs) (omega (arith, seek-none c xs n)))

-- ---- what the answer says: numbers at a place, none where there is none
module _ (A : Type 0) (says : A → List ℕ) (f : ℕ → A) (none : A) (quiet : says none ≡ []) (loud : (i : ℕ) → says (f i) ≡ [] → ⊥)
    (xs : List ℕ) (c : ℕ) where
  said : (b : Bool) → ltb (seek c xs) (length xs) ≡ b → (v : List ℕ) → (v ≡ [] → ⊥) → says (cond b (f (seek c xs)) none) ≡ v
      → (i : ℕ) × (i < length xs) × (get_or xs i 0 ≡ c) × (says (f i) ≡ v)
  said true e v n u = let h = ltb-true (seek c xs) (length xs) e in (seek c xs, h, seek-holds c xs h, u)
  said false e v n u = absurd (n (sym u ∙ quiet))

  pub says_iff : Distinct xs → (v : List ℕ) → (v ≡ [] → ⊥)
      → (says (look_up f none xs c) ≡ v) ↔ ((i : ℕ) × (i < length xs) × (get_or xs i 0 ≡ c) × (says (f i) ≡ v))
  says_iff d v n = (
    said (ltb (seek c xs) (length xs)) refl v n,
    λ q. ap says (look_at A f none xs c d q.0 q.1 q.2) ∙ q.3,
  )

  unsaid : (b : Bool) → ltb (seek c xs) (length xs) ≡ b → says (cond b (f (seek c xs)) none) ≡ []
      → (i : ℕ) → i < length xs → get_or xs i 0 ≡ c → ⊥
  unsaid true e u i h q = loud (seek c xs) u
  unsaid false e u i h q = omega (arith, seek-first c xs i h q, ltb-false (seek c xs) (length xs) e)

  pub says_none : (says (look_up f none xs c) ≡ []) ↔ ((i : ℕ) → i < length xs → get_or xs i 0 ≡ c → ⊥)
  says_none = (unsaid (ltb (seek c xs) (length xs)) refl, λ n. ap says (look_none A f none xs c n) ∙ quiet)
