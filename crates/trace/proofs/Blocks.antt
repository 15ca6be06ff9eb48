-- The blocks taken one by one, and their samples kept in an array with zeros behind them. Assumes nothing.
use mathlib.Core.Path.{◌≡◌, refl, ap, sym, ◌∙◌}
use mathlib.Core.List.{List, [], ◌++◌, append-nil, append_assoc}
use Prim.Native.Nat.{ℕ, suc, ◌+◌, ◌*◌, ◌-◌, ◌<◌, ◌≤◌}
use native.Mathlib.Omega.{arith}
use native.Mathlib.Nat.{add-zero, zero-add}
use native.Mathlib.Numerals.{add-one}
use lib.IntN.{ℤ, pos}
use lib.ListN.{length, drop, replicate, length-append, length-drop, length-replicate, replicate-append-replicate, drop_of_length-le}
use lib.Seq.{sets, sets-eq, take_at, drop_at, drop-drop}
use Rattle.std.specs.Prelude.{Some, None}
use Rattle.trace.specs.Answer.{Reading, trace, malformed, traced_of}
use Rattle.trace.specs.Reader.{block_at, behind, blocks_at}
use Rattle.trace.specs.Laws.Reader.{behind-behind, blocks-none, blocks_full, blocks-next}

-- ---- blocks in a row
behind-none : (R : Reading) → behind 0 [] R ≡ R
behind-none (trace num count samples) = ap (λ (n : ℕ). trace num n samples) (zero-add count)
behind-none malformed = refl

-- the samples of a block, stored over the zeros behind those that are there
stored : (front zs : List ℤ) (i k : ℕ) → length front ≡ i → 24 ≤ k → length zs ≡ 24
    → sets (front ++ replicate k (pos 0)) i zs ≡ (front ++ zs) ++ replicate (k - 24) (pos 0)
stored front zs i k hf hk hz =
    let gap = replicate 24 (pos 0) in
    let rest = replicate (k - 24) (pos 0) in
    let e : 24 + (k - 24) ≡ k = omega arith in
    let z : replicate k (pos 0) ≡ gap ++ rest = sym (replicate-append-replicate 24 (k - 24) (pos 0) ∙ ap (λ (n : ℕ). replicate n (pos 0)) e) in
    let l : length (front ++ gap) ≡ i + length zs = length-append front gap ∙ omega (arith, length-replicate 24 (pos 0)) in
    let h : i + length zs ≤ length (front ++ replicate k (pos 0)) =
    omega (arith, length-append front (replicate k (pos 0)), length-replicate k (pos 0)) in
    let d : drop (i + length zs) (front ++ replicate k (pos 0)) ≡ rest =
    rw (z, ← append_assoc front gap rest) (drop_at (front ++ gap) rest (i + length zs) l) in
    sets-eq zs (front ++ replicate k (pos 0)) i h ∙ rw (d, take_at front (replicate k (pos 0)) i hf)

module _ (text : List ℕ) (num : ℕ) (samples : List ℤ) (at i : ℕ) where
  -- what the loop knows at block i, which stands at `at`
  pub record Kept : Type 0 where
    pub few : i ≤ 64
    pub inside : at ≤ length text
    pub front : List ℤ
    pub size : length front ≡ 24 * i
    pub array : samples ≡ front ++ replicate (1536 - 24 * i) (pos 0)
    pub same : blocks_at num 0 64 text ≡ behind i front (blocks_at num i (64 - i) (drop at text))

  -- something stands behind the last block that may follow
  pub kept_full : Kept → at < length text → i ≡ 64 → blocks_at num 0 64 text ≡ malformed
  kept_full k h e =
      let n : 64 - i ≡ 0 = omega arith in
      k.same ∙ rw (n, blocks_full num i (drop at text) (omega (arith, length-drop at text)))

  -- no block stands there
  pub kept-bad : Kept → at < length text → i < 64 → block_at i (drop at text) ≡ None → blocks_at num 0 64 text ≡ malformed
  kept-bad k h l e =
      let n : 64 - i ≡ suc (64 - suc i) = omega arith in
      k.same ∙ rw (n, blocks-next num i (64 - suc i) (drop at text) (omega (arith, length-drop at text)), e)

  -- nothing does: these are the trace's samples
  pub kept_end : Kept → length text ≤ at
      → record { number = 0; num = num; count = i; samples = samples } ≡ traced_of (blocks_at num 0 64 text)
  unfolding traced_of
  kept_end k h =
      let p : blocks_at num 0 64 text ≡ trace num i k.front =
      k.same ∙ rw (drop_of_length-le text {i = at} h, blocks-none num i (64 - i), append-nil k.front, add-zero) in
      rw (p, k.size, ← k.array)

-- no block yet
pub kept-none : (text : List ℕ) (num : ℕ) (samples : List ℤ) → samples ≡ replicate 1536 (pos 0) → Kept text num samples 0 0
kept-none text num samples e =
    record { few = omega arith; inside = omega arith; front = []; size = refl; array = e; same = sym (behind-none (blocks_at num 0 64 text)) }

-- one more block
pub kept_next : (text : List ℕ) (num : ℕ) (samples : List ℤ) (at i : ℕ) (zs : List ℤ) (m : ℕ) → Kept text num samples at i → at < length text
    → i < 64 → block_at i (drop at text) ≡ Some (zs, m) → length zs ≡ 24 → at + m ≤ length text
    → Kept text num (sets samples (24 * i) zs) (at + m) (i + 1)
kept_next text num samples at i zs m k h l e z r =
    let n : 64 - i ≡ suc (64 - (i + 1)) = omega arith in
    let w : 1536 - 24 * i - 24 ≡ 1536 - 24 * (i + 1) = omega arith in
    record {
      few = omega arith;
      inside = r;
      front = k.front ++ zs;
      size = length-append k.front zs ∙ omega (arith, k.size);
      array = ap (λ (l : List ℤ). sets l (24 * i) zs) k.array ∙ stored k.front zs (24 * i) (1536 - 24 * i) k.size (omega arith) z ∙ rw w;
      same =
          k.same
          ∙ rw (n, blocks-next num i (64 - (i + 1)) (drop at text) (omega (arith, length-drop at text)), e, drop-drop m at text, ← add-one i)
          (behind-behind i 1 k.front zs (blocks_at num (i + 1) (64 - (i + 1)) (drop (at + m) text)));
    }
