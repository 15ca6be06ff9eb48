-- Tables: a test that is computed over a whole list of numbers, and what it says of each entry. Assumes nothing.
use Rattle.std.proofs.Common.{◌∙◌, subst, sym, add-zero, zero-add, add-suc, suc-add, le_of_suc-le-suc, not-suc-le-zero}
use Rattle.std.specs.Prelude.{Bool, true, false, ◌&&◌, List, [], ◌∷◌, ℕ, zero, suc, ◌+◌, ◌<◌, T, length, get_or}
use Rattle.laws.specs.Laws.Tests.{and_left, and_right}

-- ---- the test passes at each entry of the list and its place, counted from i
abbrev pub every : (ℕ → ℕ → Bool) → ℕ → List ℕ → Bool
every f i [] = true
every f i (x ∷ xs) = f i x && every f (suc i) xs

from : (f : ℕ → ℕ → Bool) (xs : List ℕ) (i : ℕ) → T (every f i xs) → (k : ℕ) → k < length xs → T (f (i + k) (get_or xs k 0))
from f [] i t k h = absurd (not-suc-le-zero h)
from f (x ∷ xs) i t zero h = subst (λ (m : ℕ). T (f m x)) (sym (add-zero i)) (and_left (f i x) (every f (suc i) xs) t)
from f (x ∷ xs) i t (suc k) h =
    subst (λ (m : ℕ). T (f m (get_or xs k 0))) (suc-add i k ∙ sym (add-suc i k))
    (from f xs (suc i) (and_right (f i x) (every f (suc i) xs) t) k (le_of_suc-le-suc h))

pub at : (f : ℕ → ℕ → Bool) (xs : List ℕ) → T (every f 0 xs) → (k : ℕ) → k < length xs → T (f k (get_or xs k 0))
at f xs t k h = subst (λ (m : ℕ). T (f m (get_or xs k 0))) (zero-add k) (from f xs 0 t k h)

-- ---- the same along two lists at once
abbrev pub every2 : (ℕ → ℕ → ℕ → Bool) → ℕ → List ℕ → List ℕ → Bool
every2 f i [] ys = true
every2 f i (x ∷ xs) [] = false
every2 f i (x ∷ xs) (y ∷ ys) = f i x y && every2 f (suc i) xs ys

from2 : (f : ℕ → ℕ → ℕ → Bool) (xs ys : List ℕ) (i : ℕ) → T (every2 f i xs ys) → (k : ℕ) → k < length xs
    → T (f (i + k) (get_or xs k 0) (get_or ys k 0))
from2 f [] ys i t k h = absurd (not-suc-le-zero h)
from2 f (x ∷ xs) [] i t k h = absurd t
from2 f (x ∷ xs) (y ∷ ys) i t zero h =
    subst (λ (m : ℕ). T (f m x y)) (sym (add-zero i)) (and_left (f i x y) (every2 f (suc i) xs ys) t)
from2 f (x ∷ xs) (y ∷ ys) i t (suc k) h =
    subst (λ (m : ℕ). T (f m (get_or xs k 0) (get_or ys k 0))) (suc-add i k ∙ sym (add-suc i k))
    (from2 f xs ys (suc i) (and_right (f i x y) (every2 f (suc i) xs ys) t) k (le_of_suc-le-suc h))

pub at2 : (f : ℕ → ℕ → ℕ → Bool) (xs ys : List ℕ) → T (every2 f 0 xs ys) → (k : ℕ) → k < length xs
    → T (f k (get_or xs k 0) (get_or ys k 0))
at2 f xs ys t k h = subst (λ (m : ℕ). T (f m (get_or xs k 0) (get_or ys k 0))) (zero-add k) (from2 f xs ys 0 t k h)

-- ---- along the list each entry stands before the next; where that is transitive, each stands before all that follow
module _ (b : ℕ → ℕ → Bool) where
  abbrev chain_from : ℕ → List ℕ → Bool
  chain_from p [] = true
  chain_from p (x ∷ xs) = b p x && chain_from x xs

  abbrev pub chain : List ℕ → Bool
  chain [] = true
  chain (x ∷ xs) = chain_from x xs

  module _ (trans : (x y z : ℕ) → T (b x y) → T (b y z) → T (b x z)) where
    follows : (p : ℕ) (xs : List ℕ) → T (chain_from p xs) → (k : ℕ) → k < length xs → T (b p (get_or xs k 0))
    follows p [] t k h = absurd (not-suc-le-zero h)
    follows p (x ∷ xs) t zero h = and_left (b p x) (chain_from x xs) t
    follows p (x ∷ xs) t (suc k) h =
        trans p x (get_or xs k 0) (and_left (b p x) (chain_from x xs) t)
        (follows x xs (and_right (b p x) (chain_from x xs) t) k (le_of_suc-le-suc h))

    tail : (p : ℕ) (xs : List ℕ) → T (chain_from p xs) → T (chain xs)
    tail p [] t = tt
    tail p (x ∷ xs) t = and_right (b p x) (chain_from x xs) t

    pub chain_at : (xs : List ℕ) → T (chain xs) → (i j : ℕ) → i < j → j < length xs → T (b (get_or xs i 0) (get_or xs j 0))
    chain_at [] t i j h k = absurd (not-suc-le-zero k)
    chain_at (x ∷ xs) t i zero h k = absurd (not-suc-le-zero h)
    chain_at (x ∷ xs) t zero (suc j) h k = follows x xs t j (le_of_suc-le-suc k)
    chain_at (x ∷ xs) t (suc i) (suc j) h k = chain_at xs (tail x xs t) i j (le_of_suc-le-suc h) (le_of_suc-le-suc k)
