-- Numbers that ascend along a list, by a test that is computed. Assumes nothing.
use Rattle.std.specs.Prelude.{Bool, true, ◌&&◌, List, [], ◌∷◌, ℕ, zero, suc, ◌<◌, T, ltb, length, get_or}
use Rattle.std.proofs.Common.{le_of_suc-le-suc, not-suc-le-zero, lt_trans, ltb→lt}
use Rattle.laws.specs.Laws.Tests.{and_left, and_right}

-- ---- f ascends along the list, from above p on
module _ (f : ℕ → ℕ) where
  abbrev pub asc_by : ℕ → List ℕ → Bool
  asc_by p [] = true
  asc_by p (x ∷ xs) = ltb p (f x) && asc_by (f x) xs

  above : (p : ℕ) (xs : List ℕ) → T (asc_by p xs) → (k : ℕ) → k < length xs → p < f (get_or xs k 0)
  above p [] t k h = absurd (not-suc-le-zero h)
  above p (x ∷ xs) t zero h = ltb→lt p (f x) (and_left (ltb p (f x)) (asc_by (f x) xs) t)
  above p (x ∷ xs) t (suc k) h =
      lt_trans (ltb→lt p (f x) (and_left (ltb p (f x)) (asc_by (f x) xs) t))
      (above (f x) xs (and_right (ltb p (f x)) (asc_by (f x) xs) t) k (le_of_suc-le-suc h))

  pub asc-lt : (p : ℕ) (xs : List ℕ) → T (asc_by p xs) → (i j : ℕ) → i < j → j < length xs → f (get_or xs i 0) < f (get_or xs j 0)
  asc-lt p [] t i j h k = absurd (not-suc-le-zero k)
  asc-lt p (x ∷ xs) t i zero h k = absurd (not-suc-le-zero h)
  asc-lt p (x ∷ xs) t zero (suc j) h k = above (f x) xs (and_right (ltb p (f x)) (asc_by (f x) xs) t) j (le_of_suc-le-suc k)
  asc-lt p (x ∷ xs) t (suc i) (suc j) h k =
      asc-lt (f x) xs (and_right (ltb p (f x)) (asc_by (f x) xs) t) i j (le_of_suc-le-suc h) (le_of_suc-le-suc k)
