-- A row that a loop fills place by place, from the first on. Assumes nothing.
use Rattle.std.specs.Prelude.{◌≡◌, List, ℕ, ◌+◌, ◌<◌, ◌≤◌, length, get_or, set}
use Rattle.std.proofs.Common.{arith, below_none, length-set}
use Rattle.laws.specs.Words.{tab}
use Rattle.laws.specs.Laws.Lists.{filled, filled_more}
use Rattle.laws.specs.Words.{tab}

-- xs has n places, and the first i hold f 0, f 1, ..; d stands for a place that there is not
pub record Filled {A : Type 0} (d : A) (f : ℕ → A) (n i : ℕ) (xs : List A) : Type 0 where
  pub within : i ≤ n
  pub long : length xs ≡ n
  pub held : (k : ℕ) → k < i → get_or xs k d ≡ f k

-- none yet, one more, all of them
pub fill_none : {A : Type 0} (d : A) (f : ℕ → A) (n : ℕ) (xs : List A) → length xs ≡ n → Filled d f n 0 xs
fill_none d f n xs h = record { within = omega arith; long = h; held = below_none _ }

pub fill_more : {A : Type 0} {d : A} {f : ℕ → A} {n i : ℕ} {xs : List A} {x : A} → Filled d f n i xs → i < n → x ≡ f i
    → Filled d f n (i + 1) (set xs i x)
fill_more {A} {d} {f} {n} {i} {xs} r l q =
    record { within = omega arith; long = simp length-set r.long; held = filled_more A d f xs i _ (omega arith) q r.held }

pub fill_all : {A : Type 0} {d : A} {f : ℕ → A} {n i : ℕ} {xs : List A} → Filled d f n i xs → n ≤ i → xs ≡ tab f n
fill_all {A} {d} {f} {n} {i} {xs} r l = filled A d n f xs r.long (λ k h. r.held k (omega arith))
