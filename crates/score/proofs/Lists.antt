-- The lists that the chains of this crate go through, in std's words. Assumes nothing.
use Rattle.std.specs.Prelude.{◌≡◌, refl, ℕ, ◌<◌, ℤ, pos, get_or, Bool, true, false, ◌||◌, List, [], ◌∷◌, length, Float}
use Rattle.std.proofs.Common.{ap, sym, ◌∙◌}
use Rattle.std.specs.Bool.{MatchBool}
use Rattle.std.specs.Float.{nan, binary64}
use Rattle.std.specs.Float.Ieee.{add, mul, of_int}
use Rattle.laws.specs.Laws.Lists.{filled}
use Prim.Native.Nat.{zero, suc}
use native.Mathlib.Nat.{not-suc-le-zero, le_of_suc-le-suc}
use Rattle.std.specs.List.{AllWithin, HoldsAt, list_any, fold, zip}
use Rattle.std.proofs.lemmas.List.Elements.{All-from_all_within}
use Rattle.std.proofs.lemmas.List.Folds.{list_any_at, list_any_none}
use Rattle.float.specs.Calls.{abs_of, sum_from}
use Rattle.score.specs.Samples.{some}
use Rattle.score.specs.Score.{products, doubles_of}
use Rattle.score.specs.Laws.Score.{doubles-length}
use Rattle.score.specs.Scale.{larger, largest_from}

-- ---- one of them passes the test
pub some_any : (f : Float → Bool) (xs : List Float) → some f xs ≡ list_any f xs
unfolding some
some_any f [] = refl
some_any f (x ∷ xs) = ap (λ (b : Bool). f x || b) (some_any f xs)

-- what a search by the test answers
pub some_found : (f : Float → Bool) (xs : List Float) (r : Bool)
    → MatchBool r ((k : ℕ) × (k < length xs) × HoldsAt (λ (x : Float). f x ≡ true) xs k) (AllWithin (λ (x : Float). f x ≡ false) xs 0 (length xs))
    → r ≡ some f xs
some_found f xs true (k, i, h) = sym (some_any f xs ∙ list_any_at f xs k nan i (h nan))
some_found f xs false h = sym (some_any f xs ∙ list_any_none f xs (All-from_all_within (λ (x : Float). f x ≡ false) xs h))

-- ---- the sum of the products
pub dot_folds : (acc : Float) (xs ys : List Float)
    → sum_from acc (products xs ys) ≡ fold (λ (s : Float) (p : Float × Float). add binary64 s (mul binary64 p.0 p.1)) acc (zip xs ys)
unfolding sum_from products
dot_folds acc [] ys = refl
dot_folds acc (x ∷ xs) [] = refl
dot_folds acc (x ∷ xs) (y ∷ ys) = dot_folds (add binary64 acc (mul binary64 x y)) xs ys

-- ---- the largest magnitude
pub largest_folds : (m : Float) (xs : List Float) → largest_from m xs ≡ fold (λ (m x : Float). larger m (abs_of x)) m xs
unfolding largest_from
largest_folds m [] = refl
largest_folds m (x ∷ xs) = largest_folds (larger m (abs_of x)) xs

-- ---- whole numbers as doubles
doubles-at : (ys : List ℤ) (k : ℕ) → k < length ys → get_or (doubles_of ys) k nan ≡ of_int binary64 (get_or ys k (pos 0))
unfolding doubles_of
doubles-at [] k h = absurd (not-suc-le-zero h)
doubles-at (y ∷ ys) zero h = refl
doubles-at (y ∷ ys) (suc k) h = doubles-at ys k (le_of_suc-le-suc h)

pub doubles-filled : (ys : List ℤ) (t : List Float) → length t ≡ length ys
    → ((k : ℕ) → k < length ys → get_or t k nan ≡ of_int binary64 (get_or ys k (pos 0))) → t ≡ doubles_of ys
doubles-filled ys t l p =
    filled Float nan (length ys) (λ (k : ℕ). of_int binary64 (get_or ys k (pos 0))) t l p
    ∙ sym (filled Float nan (length ys) (λ (k : ℕ). of_int binary64 (get_or ys k (pos 0))) (doubles_of ys) (doubles-length ys) (doubles-at ys))
