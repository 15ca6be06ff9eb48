-- The lists that the loops of this crate go through. Assumes nothing.
use mathlib.Core.Path.{◌≡◌, ap, ◌∙◌}
use mathlib.Core.Bool.{Bool, true, false, ◌||◌}
use mathlib.Core.List.{List}
use Prim.Native.Nat.{ℕ, suc, ◌+◌, ◌-◌, ◌*◌, ◌<◌, ◌≤◌}
use native.Mathlib.Omega.{arith}
use native.Mathlib.Numerals.{add-one}
use lib.Dec.{ltb}
use lib.IntN.{ℤ, pos, nat_abs}
use lib.ListN.{length, take, drop, get_or, drop_of_length-le}
use lib.Seq.{length-take-le, get_or-take}
use Rattle.laws.specs.Words.{tab}
use Rattle.laws.specs.Laws.Lists.{drop-next, filled}
use Rattle.tetra.specs.Block.{block_at}
use Rattle.writer.specs.Writer.{is_wide, first_of}

-- ---- one sample is beyond: the next one is, or not, or none is left
module _ (xs : List ℤ) (j : ℕ) where
  pub wide_here : j < length xs → ltb 32767 (nat_abs (get_or xs j (pos 0))) ≡ true → is_wide (drop j xs) ≡ true
  unfolding is_wide
  wide_here h e = ap is_wide (drop-next ℤ (pos 0) xs j h) ∙ ap (λ (b : Bool). b || is_wide (drop (j + 1) xs)) e

  pub wide-next : j < length xs → ltb 32767 (nat_abs (get_or xs j (pos 0))) ≡ false → is_wide (drop j xs) ≡ is_wide (drop (j + 1) xs)
  unfolding is_wide
  wide-next h e = ap is_wide (drop-next ℤ (pos 0) xs j h) ∙ ap (λ (b : Bool). b || is_wide (drop (j + 1) xs)) e

  pub wide_done : length xs ≤ j → is_wide (drop j xs) ≡ false
  unfolding is_wide
  wide_done h = ap is_wide (drop_of_length-le xs h)

-- ---- the lowest of the blocks from i on that passes the test: block i does, or not, or none is left
module _ (test : List ℤ → Bool) (xs : List ℤ) (i count : ℕ) where
  pub first_here : i < count → test (block_at xs (24 * i)) ≡ true → first_of test xs i (count - i) ≡ i
  unfolding first_of
  first_here h e =
      let n : count - i ≡ suc (count - (i + 1)) = omega arith in
      rw (n, e)

  pub first_next : i < count → test (block_at xs (24 * i)) ≡ false
      → first_of test xs i (count - i) ≡ first_of test xs (i + 1) (count - (i + 1))
  unfolding first_of
  first_next h e =
      let n : count - i ≡ suc (count - (i + 1)) = omega arith in
      rw (n, e, add-one)

  pub first_done : count ≤ i → first_of test xs i (count - i) ≡ i
  unfolding first_of
  first_done h =
      let n : count - i ≡ 0 = omega arith in
      rw n

-- ---- the first `count` of an array that holds f 0, f 1, ..
pub front : (f : ℕ → ℕ) (count : ℕ) (xs : List ℕ) → count ≤ length xs → ((k : ℕ) → k < count → get_or xs k 0 ≡ f k)
    → take count xs ≡ tab f count
front f count xs h p =
    filled ℕ 0 count f (take count xs) (length-take-le count xs h) (λ k l. get_or-take count xs k 0 l ∙ p k l)
