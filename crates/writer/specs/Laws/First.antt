-- The lowest block that passes a test, for any test. Assumes nothing.
use Rattle.std.specs.Prelude.{◌≡◌, Bool, List, ℤ}
use Rattle.std.proofs.Math.Path.{refl, ap}
use Rattle.std.proofs.Common.{sym, ◌∙◌, true≢false}
use Rattle.std.proofs.Math.Bool.{true, false, cond}
use Prim.Native.Nat.{ℕ, zero, suc, ◌+◌, ◌*◌, ◌<◌, ◌≤◌}
use native.Mathlib.Omega.{arith}
use borrow.Author.Tests.{ltb-true, ltb-false}
use Rattle.std.proofs.Math.Dec.{ltb}
use Rattle.tetra.specs.Block.{block_at}
use Rattle.writer.specs.Writer.{first_of, NoneBelow}

module _ (test : List ℤ → Bool) (xs : List ℤ) where
  -- block k passes
  abbrev pub passes : ℕ → Bool
  passes k = test (block_at xs (24 * k))

  -- the block that is found passes; where none is, the answer is the end
  pub first-has : (i n : ℕ) → first_of test xs i n < i + n → passes (first_of test xs i n) ≡ true
  unfolding first_of
  first-has i zero h = absurd (omega arith)
  first-has i (suc n) h = go (passes i) refl h (first-has (suc i) n)
    where
      go : (b : Bool) → passes i ≡ b → cond b i (first_of test xs (suc i) n) < i + suc n
          → (first_of test xs (suc i) n < suc i + n → passes (first_of test xs (suc i) n) ≡ true)
          → passes (cond b i (first_of test xs (suc i) n)) ≡ true
      go true e h f = e
      go false e h f = f (omega arith)

  -- none below it does
  pub first_least : (i n k : ℕ) → i ≤ k → k < first_of test xs i n → passes k ≡ false
  unfolding first_of
  first_least i zero k a h = absurd (omega arith)
  first_least i (suc n) k a h = go (passes i) (ltb i k) refl refl h (first_least (suc i) n k)
    where
      go : (b l : Bool) → passes i ≡ b → ltb i k ≡ l → k < cond b i (first_of test xs (suc i) n)
          → (suc i ≤ k → k < first_of test xs (suc i) n → passes k ≡ false) → passes k ≡ false
      go true l e q h f = absurd (omega arith)
      go false true e q h f = f (ltb-true i k q) h
      go false false e q h f =
          let z : k ≡ i = omega (arith, ltb-false i k q) in
          ap passes z ∙ e

  -- and only that block is the answer
  pub first_is : (i n k : ℕ) → i ≤ k → k < i + n → passes k ≡ true → ((m : ℕ) → m < k → passes m ≡ false) → first_of test xs i n ≡ k
  unfolding first_of
  first_is i zero k a b e f = absurd (omega arith)
  first_is i (suc n) k a b e f = go (ltb i k) refl (λ l. first_is (suc i) n k l (omega arith) e f)
    where
      go : (q : Bool) → ltb i k ≡ q → (suc i ≤ k → first_of test xs (suc i) n ≡ k) → cond (passes i) i (first_of test xs (suc i) n) ≡ k
      go true q r =
          let l = ltb-true i k q in
          ap (λ (b : Bool). cond b i (first_of test xs (suc i) n)) (f i l) ∙ r l
      go false q r =
          let z : i ≡ k = omega (arith, ltb-false i k q) in
          ap (λ (b : Bool). cond b i (first_of test xs (suc i) n)) (ap passes z ∙ e) ∙ z

  pub first-none : (i n : ℕ) → ((m : ℕ) → m < i + n → passes m ≡ false) → first_of test xs i n ≡ i + n
  unfolding first_of
  first-none i zero f = omega arith
  first-none i (suc n) f =
      let e = f i (omega arith) in
      let r = first-none (suc i) n (λ m h. f m (omega arith)) in
      rw e (omega arith)

-- ---- blocks of which none is so fail the test that finds those that are
pub fails : (test : List ℤ → Bool) (xs : List ℤ) (P : ℕ → Type 0) → ((i : ℕ) → test (block_at xs (24 * i)) ≡ true → P i)
    → (n : ℕ) → NoneBelow n P → (i : ℕ) → i < n → test (block_at xs (24 * i)) ≡ false
fails test xs P f n none i h = go (test (block_at xs (24 * i))) refl
  where
    go : (b : Bool) → test (block_at xs (24 * i)) ≡ b → b ≡ false
    go true e = absurd (none i h (f i e))
    go false e = refl

-- ---- the test finds the blocks that are so: then the answer is the lowest of them
module _ (test : List ℤ → Bool) (xs : List ℤ) (P : ℕ → Type 0) (finds : (i : ℕ) → P i → test (block_at xs (24 * i)) ≡ true)
    (found : (i : ℕ) → test (block_at xs (24 * i)) ≡ true → P i) (count : ℕ) where
  pub lowest_is : (b : ℕ) → b < count → P b → NoneBelow b P → first_of test xs 0 count ≡ b
  lowest_is b h p none = first_is test xs 0 count b (omega arith) (omega arith) (finds b p) (fails test xs P found b none)

  pub lowest-none : NoneBelow count P → count ≤ first_of test xs 0 count
  lowest-none none = omega (arith, first-none test xs 0 count (λ i h. fails test xs P found count none i (omega arith)))

  pub lowest-has : first_of test xs 0 count < count → P (first_of test xs 0 count) × NoneBelow (first_of test xs 0 count) P
  lowest-has h = (
    found _ (first-has test xs 0 count (omega arith)),
    λ i l p. true≢false (sym (finds i p) ∙ first_least test xs 0 count i (omega arith) l),
  )
