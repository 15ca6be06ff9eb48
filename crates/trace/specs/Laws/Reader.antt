-- The reader of a block accepts just the two lines of a block, and blocks are taken off the front of a text one by one. Assumes nothing.
use Rattle.std.specs.Prelude.{◌≡◌, Bool, true, false, ℕ, zero, suc, ◌+◌, ◌*◌, ◌-◌, ◌<◌, ◌≤◌, ltb, ℤ, pos, take, get_or, Option, Some, None}
use Rattle.std.proofs.Math.Path.{refl, ap, sym}
use Rattle.std.proofs.lemmas.Option.{none-some, some_pair_parts}
use Rattle.std.proofs.Common.{ap₂, ◌∙◌, not-suc-le-zero, ltb-true, ltb-false, length-drop, take-append-drop, take_at, drop_at, length-take-le, get_or-drop}
use mathlib.Core.List.{List, [], ◌∷◌, ◌++◌, append_assoc}
use native.Mathlib.Omega.{arith}
use Rattle.std.proofs.Math.ListN.{length, drop, length-append, get_or-append}
use Rattle.std.proofs.Math.Seq.{drop-append_seam}
use Rattle.laws.specs.Laws.Lists.{append_past}
use Rattle.text.specs.Text.{bytes, line, decimal, listed}
use Rattle.text.specs.Lines.{onRead, decimal_line_at}
use Rattle.text.specs.Rows.{IsI32, AllI32, list_line_at}
use Rattle.text.specs.Laws.Lines.{ReadRule, cut, taken, decimal-rule}
use Rattle.text.specs.Laws.Text.{decimal-fits}
use Rattle.text.specs.Laws.Rows.{list-rule, listed-length}
use Rattle.shown.specs.Shown.{block_text, block_texts}
use Rattle.trace.specs.Answer.{Reading, trace, malformed}
use Rattle.trace.specs.Reader.{block_at, behind, blocks_at}

-- what is malformed is no trace
pub differ : {num count : ℕ} {samples : List ℤ} → malformed ≡ trace num count samples → ⊥
differ e = let z : ◌≡◌ {A = ℕ} 0 1 = cc in omega arith

-- ---- a block
module _ (i : ℕ) where
  block_back : (zs : List ℤ) → (length zs ≡ 24) × AllI32 zs → (rest : List ℕ)
      → block_at i (block_text i zs ++ rest) ≡ Some (zs, length (block_text i zs))
  unfolding block_at block_text
  block_back zs h rest =
      let first = line (bytes "block=") (decimal i) in
      let second = line (bytes "counts=") (listed zs) in
      rw (
        append_assoc first second rest,
        (decimal-rule (bytes "block=") i i).back i (omega arith, omega arith) (second ++ rest),
        drop-append_seam first (second ++ rest),
        (list-rule (bytes "counts=")).back zs h rest,
        length-append first second,
      )

  block_only : (s : List ℕ) (zs : List ℤ) (n : ℕ) → block_at i s ≡ Some (zs, n)
      → ((length zs ≡ 24) × AllI32 zs) × (n ≡ length (block_text i zs)) × (s ≡ block_text i zs ++ drop n s)
  unfolding block_at block_text
  block_only s zs n e = go (decimal_line_at (bytes "block=") i i s) refl e
    where
      -- the first line is of x and has k bytes, the second is of ys and has m
      last : (x k : ℕ) (ys : List ℤ) (m : ℕ) → decimal_line_at (bytes "block=") i i s ≡ Some (x, k)
          → list_line_at (bytes "counts=") (drop k s) ≡ Some (ys, m) → ◌≡◌ {A = Option (List ℤ × ℕ)} (Some (ys, k + m)) (Some (zs, n))
          → ((length zs ≡ 24) × AllI32 zs) × (n ≡ length (block_text i zs)) × (s ≡ block_text i zs ++ drop n s)
      last x k ys m h g e =
          let p = some_pair_parts ys zs (k + m) n e in
          let v = p.0 in
          let w = p.1 in
          let a = (decimal-rule (bytes "block=") i i).only s x k h in
          let b = (list-rule (bytes "counts=")).only (drop k s) ys m g in
          let j : x ≡ i = omega (arith, a.0.0, a.0.1) in
          let first = line (bytes "block=") (decimal i) in
          let second = line (bytes "counts=") (listed zs) in
          let rest = drop m (drop k s) in
          let f : s ≡ first ++ drop k s = rw j at a.2 in
          let d : drop k s ≡ second ++ rest = rw v at b.2 in
          let l : n ≡ length (first ++ second) = omega (arith, rw j at a.1, rw v at b.1, length-append first second) in
          let q : s ≡ (first ++ second) ++ rest = f ∙ ap (λ (r : List ℕ). first ++ r) d ∙ sym (append_assoc first second rest) in
          (rw v at b.0, l, cut (first ++ second) rest s n q l)

      row : (x k : ℕ) (y : Option (List ℤ × ℕ)) → decimal_line_at (bytes "block=") i i s ≡ Some (x, k)
          → list_line_at (bytes "counts=") (drop k s) ≡ y → onRead {A = Option (List ℤ × ℕ)} y None (λ ys m. Some (ys, k + m)) ≡ Some (zs, n)
          → ((length zs ≡ 24) × AllI32 zs) × (n ≡ length (block_text i zs)) × (s ≡ block_text i zs ++ drop n s)
      row x k (Some (ys, m)) h g e = last x k ys m h g e
      row x k None h g e = absurd (none-some _ e)

      go : (x : Option (ℕ × ℕ)) → decimal_line_at (bytes "block=") i i s ≡ x
          → onRead {A = Option (List ℤ × ℕ)} x None (λ v k. onRead (list_line_at (bytes "counts=") (drop k s)) None (λ ys m. Some (ys, k + m))) ≡ Some (zs, n)
          → ((length zs ≡ 24) × AllI32 zs) × (n ≡ length (block_text i zs)) × (s ≡ block_text i zs ++ drop n s)
      go (Some (x, k)) h e = row x k (list_line_at (bytes "counts=") (drop k s)) h refl e
      go None h e = absurd (none-some _ e)

  pub block-rule : ReadRule (block_at i) (λ zs. (length zs ≡ 24) × AllI32 zs) (block_text i)
  block-rule = record { back = block_back; only = block_only }

-- ---- blocks in a row
pub behind-behind : (n m : ℕ) (u v : List ℤ) (R : Reading) → behind n u (behind m v R) ≡ behind (n + m) (u ++ v) R
behind-behind n m u v (trace num count samples) =
    ap₂ (λ (k : ℕ) (l : List ℤ). trace num k l) (omega arith) (sym (append_assoc u v samples))
behind-behind n m u v malformed = refl

-- nothing is left
pub blocks-none : (num i n : ℕ) → blocks_at num i n [] ≡ trace num 0 []
unfolding blocks_at
blocks-none num i zero = refl
blocks-none num i (suc n) = refl

-- something is, and no block may follow
pub blocks_full : (num i : ℕ) (s : List ℕ) → 0 < length s → blocks_at num i 0 s ≡ malformed
unfolding blocks_at
blocks_full num i [] h = absurd (omega arith)
blocks_full num i (b ∷ s) h = refl

-- a block is, and what follows it
pub blocks-next : (num i n : ℕ) (s : List ℕ) → 0 < length s
    → blocks_at num i (suc n) s ≡ onRead (block_at i s) malformed (λ zs m. behind 1 zs (blocks_at num (suc i) n (drop m s)))
unfolding blocks_at
blocks-next num i n [] h = absurd (omega arith)
blocks-next num i n (b ∷ s) h = refl

-- a block has some bytes
pub block-some : (i : ℕ) (zs : List ℤ) (rest : List ℕ) → 0 < length (block_text i zs ++ rest)
unfolding block_text
block-some i zs rest = omega arith

-- the samples of the first block, and the others
front_fit : (n : ℕ) (zs : List ℤ) → AllI32 zs → AllI32 (take n zs)
front_fit n zs f k h =
    let l : k < length zs = omega (arith, length-append (take n zs) (drop n zs), ap length (take-append-drop n zs)) in
    let e : get_or (take n zs) k (pos 0) ≡ get_or zs k (pos 0) =
    sym (get_or-append (take n zs) (drop n zs) (pos 0) k h) ∙ ap (λ (l : List ℤ). get_or l k (pos 0)) (take-append-drop n zs) in
    rw e (f k l)

rest_fit : (n : ℕ) (zs : List ℤ) → AllI32 zs → AllI32 (drop n zs)
rest_fit n zs f k h = rw (get_or-drop n zs k (pos 0)) (f (n + k) (omega (arith, length-drop n zs)))

pub both_fit : (us zs : List ℤ) → AllI32 us → AllI32 zs → AllI32 (us ++ zs)
both_fit us zs f g k h = go (ltb k (length us)) refl
  where
    go : (b : Bool) → ltb k (length us) ≡ b → IsI32 (get_or (us ++ zs) k (pos 0))
    go true e =
        let l = ltb-true k (length us) e in
        rw (get_or-append us zs (pos 0) k l) (f k l)
    go false e =
        let l = ltb-false k (length us) e in
        rw (append_past ℤ (pos 0) us zs k l) (g (k - length us) (omega (arith, length-append us zs)))

pub blocks-back : (num i n count : ℕ) (samples : List ℤ) → count ≤ n → length samples ≡ 24 * count → AllI32 samples
    → blocks_at num i n (block_texts i count samples) ≡ trace num count samples
unfolding block_texts
blocks-back num i n zero [] h l f = blocks-none num i n
blocks-back num i n zero (z ∷ samples) h l f = absurd (omega arith)
blocks-back num i zero (suc count) samples h l f = absurd (omega arith)
blocks-back num i (suc n) (suc count) samples h l f =
    let us = take 24 samples in
    let zs = drop 24 samples in
    let k : length us ≡ 24 = length-take-le 24 samples (omega arith) in
    let m : length zs ≡ 24 * count = length-drop 24 samples ∙ omega arith in
    let rest = block_texts (suc i) count zs in
    let q : 1 + count ≡ suc count = omega arith in
    rw (
      blocks-next num i n (block_text i us ++ rest) (block-some i us rest),
      (block-rule i).back us (k, front_fit 24 samples f) rest,
      drop-append_seam (block_text i us) rest,
      blocks-back num (suc i) n count zs (omega arith) m (rest_fit 24 samples f),
      take-append-drop 24 samples,
      q,
    )

pub record Blocks (num i n : ℕ) (s : List ℕ) (x count : ℕ) (samples : List ℤ) : Type 0 where
  pub num_is : num ≡ x
  pub few : count ≤ n
  pub size : length samples ≡ 24 * count
  pub fit : AllI32 samples
  pub text : s ≡ block_texts i count samples

-- no block
only_none : (num i n x count : ℕ) (samples : List ℤ) → trace num 0 [] ≡ trace x count samples → Blocks num i n [] x count samples
unfolding block_texts
only_none num i n x count samples e =
    let y : num ≡ x = cc in
    let c : 0 ≡ count = cc in
    let z : [] ≡ samples = cc in
    rw (← c, ← z) (record { num_is = y; few = omega arith; size = refl; fit = λ k l. absurd (not-suc-le-zero l); text = refl })

-- one more block in front
only_more : (num i n : ℕ) (s : List ℕ) (zs : List ℤ) (rest : List ℕ) (x count : ℕ) (samples : List ℤ)
    → (length zs ≡ 24) × AllI32 zs → s ≡ block_text i zs ++ rest → (R : Reading) → behind 1 zs R ≡ trace x count samples
    → ((y c : ℕ) (ss : List ℤ) → R ≡ trace y c ss → Blocks num (suc i) n rest y c ss)
    → Blocks num i (suc n) s x count samples
unfolding block_texts
only_more num i n s zs rest x count samples o f (trace y c ss) e ih =
    let b = ih y c ss refl in
    let p : y ≡ x = cc in
    let q : 1 + c ≡ count = cc in
    let v : zs ++ ss ≡ samples = cc in
    let r : count ≡ suc c = omega arith in
    rw (r, ← v) (record {
      num_is = b.num_is ∙ p;
      few = omega (arith, b.few);
      size = length-append zs ss ∙ omega (arith, o.0, b.size);
      fit = both_fit zs ss o.1 b.fit;
      text =
          rw (take_at zs ss 24 o.0, drop_at zs ss 24 o.0)
          (f ∙ ap (λ (l : List ℕ). block_text i zs ++ l) b.text);
    })
only_more num i n s zs rest x count samples o f malformed e ih = absurd (differ e)

pub blocks_only : (num i n : ℕ) (s : List ℕ) (x count : ℕ) (samples : List ℤ) → blocks_at num i n s ≡ trace x count samples
    → Blocks num i n s x count samples
unfolding blocks_at
blocks_only num i zero [] x count samples e = only_none num i zero x count samples e
blocks_only num i zero (b ∷ s) x count samples e = absurd (differ e)
blocks_only num i (suc n) [] x count samples e = only_none num i (suc n) x count samples e
blocks_only num i (suc n) (b ∷ s) x count samples e =
    let t = taken malformed (block_at i) _ (block_text i) (block-rule i) (b ∷ s) (λ zs rest. behind 1 zs (blocks_at num (suc i) n rest)) (trace x count samples) differ e in
    only_more num i n (b ∷ s) t.0 t.1 x count samples t.2 t.3 (blocks_at num (suc i) n t.1) t.4 (blocks_only num (suc i) n t.1)

-- ---- how long they are
-- a block whose index has at most d figures
pub block-length : (d i : ℕ) (zs : List ℤ) → length (decimal i) ≤ d → length zs ≡ 24 → AllI32 zs → length (block_text i zs) ≤ 302 + d
unfolding block_text
block-length d i zs h l f =
    let e : length (block_text i zs) ≡ 7 + length (decimal i) + (8 + length (listed zs)) = simp length-append (omega arith) in
    omega (arith, e, listed-length zs (omega arith) f)

-- n blocks from index i on, the first k of which have an index of one figure
pub texts-length : (k n i : ℕ) (samples : List ℤ) → k ≤ n → (0 < k → i + k ≤ 10) → i + n ≤ 64 → length samples ≡ 24 * n → AllI32 samples
    → length (block_texts i n samples) + k ≤ 304 * n
unfolding block_texts
texts-length k zero i samples hk hi hn l f = omega arith
texts-length zero (suc n) i samples hk hi hn l f =
    let us = take 24 samples in
    let zs = drop 24 samples in
    let u : length us ≡ 24 = length-take-le 24 samples (omega arith) in
    let z : length zs ≡ 24 * n = length-drop 24 samples ∙ omega arith in
    omega (
      arith,
      length-append (block_text i us) (block_texts (suc i) n zs),
      block-length 2 i us (decimal-fits 1 i (omega arith)) u (front_fit 24 samples f),
      texts-length zero n (suc i) zs (omega arith) (λ h. absurd (omega arith)) (omega arith) z (rest_fit 24 samples f),
    )
texts-length (suc k) (suc n) i samples hk hi hn l f =
    let us = take 24 samples in
    let zs = drop 24 samples in
    let u : length us ≡ 24 = length-take-le 24 samples (omega arith) in
    let z : length zs ≡ 24 * n = length-drop 24 samples ∙ omega arith in
    let t : i + suc k ≤ 10 = hi (omega arith) in
    omega (
      arith,
      length-append (block_text i us) (block_texts (suc i) n zs),
      block-length 1 i us (decimal-fits 0 i (omega arith)) u (front_fit 24 samples f),
      texts-length k n (suc i) zs (omega arith) (λ h. omega arith) (omega arith) z (rest_fit 24 samples f),
    )
