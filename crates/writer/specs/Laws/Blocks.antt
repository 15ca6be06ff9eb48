-- What the tests of a block say of its samples, and the word of a block. Assumes nothing.
use Rattle.std.specs.Prelude.{◌≡◌, refl, Bool, true, false, cond, ◌||◌, List, [], ◌∷◌, ℕ, zero, suc, ◌+◌, ◌*◌, ◌^◌, ◌<◌, ◌≤◌, T, ltb, eqb, ℤ, pos, nat_abs, length, get_or, Float}
use Rattle.std.proofs.Common.{ap, sym, subst, true≢false, suc-le-suc, not-suc-le-zero, le_of_suc-le-suc, le_trans, zero-lt-suc, arith, ltb-true, ltb-false, lt-ltb, eqb-true, eq-eqb, lit≤}
use Rattle.std.proofs.lemmas.Bool.{eqb-false}
use Rattle.laws.specs.Laws.Lists.{tab-length, tab_at}
use Rattle.laws.specs.Laws.Tests.{is_true}
use Rattle.float.specs.Value.{U, mag_units}
use Rattle.float.specs.Calls.{million64, quotients_of}
use Rattle.tetra.specs.Block.{block_at}
use Rattle.tetra.specs.Demand2.{word_small as Demand2·word_small}
use Rattle.score.specs.Samples.{limit64, exceeds, some, sample_number, is_scale, scale_number}
use Rattle.score.specs.Score.{doubles_of}
use Rattle.score.specs.Laws.Sample.{UpTo, Sample, each_map, sample_number_zero}
use Rattle.score.specs.Laws.Score.{doubles_are}
use Rattle.search.specs.Parity.{both_parities}
use Rattle.search.specs.Block.{point_from, winner_for}
use Rattle.encoder.specs.Encode.{Coding, code_of, code_for, number_at, encode_at_over}
use Rattle.encoder.specs.Numbers.{at-accepted, at-refused}
use Rattle.page.specs.Page.{Fit}
use Rattle.writer.specs.Writer.{scale_of, is_wide, is_far, word_for, words_for, Wide, Far}

-- ---- samples beyond 32767
pub some-wide : (ys : List ℤ) (j : ℕ) → j < length ys → 32767 < nat_abs (get_or ys j (pos 0)) → is_wide ys ≡ true
unfolding is_wide
some-wide [] j h l = absurd (not-suc-le-zero h)
some-wide (y ∷ ys) zero h l = rw (lt-ltb 32767 (nat_abs y) l)
some-wide (y ∷ ys) (suc j) h l = or_true (ltb 32767 (nat_abs y)) (some-wide ys j (le_of_suc-le-suc h) l)
  where
    or_true : (a : Bool) → is_wide ys ≡ true → a || is_wide ys ≡ true
    or_true true e = refl
    or_true false e = e

pub wide-some : (ys : List ℤ) → is_wide ys ≡ true → (j : ℕ) × (j < length ys) × (32767 < nat_abs (get_or ys j (pos 0)))
unfolding is_wide
wide-some [] e = absurd (true≢false (sym e))
wide-some (y ∷ ys) e = go (ltb 32767 (nat_abs y)) refl e (wide-some ys)
  where
    go : (b : Bool) → ltb 32767 (nat_abs y) ≡ b → b || is_wide ys ≡ true
        → (is_wide ys ≡ true → (j : ℕ) × (j < length ys) × (32767 < nat_abs (get_or ys j (pos 0))))
        → (j : ℕ) × (j < suc (length ys)) × (32767 < nat_abs (get_or (y ∷ ys) j (pos 0)))
    go true q e f = (0, zero-lt-suc (length ys), ltb-true 32767 (nat_abs y) q)
    go false q e f =
        let r = f e in
        (suc r.0, suc-le-suc r.1, r.2)

-- a block with none: each sample is small, and what is read past the end is 0
pub none-wide : (ys : List ℤ) → is_wide ys ≡ false → (j : ℕ) → nat_abs (get_or ys j (pos 0)) ≤ 32767
unfolding is_wide
none-wide [] e j = omega arith
none-wide (y ∷ ys) e j = go (ltb 32767 (nat_abs y)) refl e (none-wide ys) j
  where
    go : (b : Bool) → ltb 32767 (nat_abs y) ≡ b → b || is_wide ys ≡ false
        → (is_wide ys ≡ false → (j : ℕ) → nat_abs (get_or ys j (pos 0)) ≤ 32767) → (j : ℕ) → nat_abs (get_or (y ∷ ys) j (pos 0)) ≤ 32767
    go true q e f j = absurd (true≢false e)
    go false q e f zero = ltb-false 32767 (nat_abs y) q
    go false q e f (suc j) = f e j

module _ (xs : List ℤ) (i : ℕ) where
  block_at_lem : (j : ℕ) → j < 24 → get_or (block_at xs (24 * i)) j (pos 0) ≡ get_or xs (24 * i + j) (pos 0)
  block_at_lem j h = tab_at ℤ (pos 0) (λ (k : ℕ). get_or xs (24 * i + k) (pos 0)) 24 j h

  block-length : length (block_at xs (24 * i)) ≡ 24
  block-length = tab-length ℤ (λ (k : ℕ). get_or xs (24 * i + k) (pos 0)) 24

  pub wide-block : Wide xs i → is_wide (block_at xs (24 * i)) ≡ true
  wide-block w =
      some-wide (block_at xs (24 * i)) w.0 (omega (arith, w.1, block-length)) (omega (arith, w.2, ap nat_abs (block_at_lem w.0 w.1)))

  pub block-wide : is_wide (block_at xs (24 * i)) ≡ true → Wide xs i
  block-wide e =
      let r = wide-some (block_at xs (24 * i)) e in
      let h : r.0 < 24 = omega (arith, r.1, block-length) in
      (r.0, h, omega (arith, r.2, ap nat_abs (block_at_lem r.0 h)))

-- ---- blocks refused with 4
pub far_block : (num : ℕ) (xs : List ℤ) (i : ℕ) → Far num xs i → is_far (scale_of num) (block_at xs (24 * i)) ≡ true
unfolding is_far
far_block num xs i e = eq-eqb _ 4 e

pub block_far : (num : ℕ) (xs : List ℤ) (i : ℕ) → is_far (scale_of num) (block_at xs (24 * i)) ≡ true → Far num xs i
unfolding is_far
block_far num xs i e = eqb-true _ 4 e

-- ---- a block without such a sample is accepted at a scale, or refused with 4
small-samples : (ys : List ℤ) → is_wide ys ≡ false → sample_number (doubles_of ys) ≡ 0
unfolding mag_units
small-samples ys e =
    sample_number_zero (doubles_of ys)
    (each_map (UpTo (2 ^ 31 * U)) Sample (doubles_of ys)
    (λ x u. record { fit = u.fit; fin = u.fin; le = le_trans u.le room })
    (doubles_are ys (λ k. le_trans (none-wide ys e k) (lit≤ tt))))
  where
    room : 2 ^ 31 * U ≤ mag_units limit64
    room = lit≤ tt

pub scaled_number : (ys : List ℤ) (s : Float) → T (is_scale s) → is_wide ys ≡ false → is_far s ys ≡ false → scale_number (doubles_of ys) s ≡ 0
unfolding scale_number is_far
scaled_number ys s t w f =
    go (is_scale s) (sample_number (doubles_of ys)) (some (exceeds million64) (quotients_of (doubles_of ys) s)) (is_true (is_scale s) t)
    (small-samples ys w) (eqb-false _ 4 f)
  where
    go : (a : Bool) (n : ℕ) (b : Bool) → a ≡ true → n ≡ 0 → (cond a (cond (eqb n 0) (cond b 4 0) n) 3 ≡ 4 → ⊥)
        → cond a (cond (eqb n 0) (cond b 4 0) n) 3 ≡ 0
    go a n true p q h = absurd (h (rw (p, q)))
    go a n false p q h = rw (p, q)

-- ---- words have 47 bits
pub word_small : (s : Float) (xs : List ℤ) (i : ℕ) → word_for s xs i < 2 ^ 47
unfolding word_for code_for code_of
word_small s xs i = go (eqb (number_at x s 8) 0) refl
  where
    x : List Float
    x = doubles_of (block_at xs (24 * i))

    go : (b : Bool) → eqb (number_at x s 8) 0 ≡ b → (encode_at_over both_parities x s 8).word < 2 ^ 47
    go true e =
        subst (λ (c : Coding). c.word < 2 ^ 47) (sym (at-accepted both_parities x s 8 (eqb-true _ 0 e)))
        (Demand2·word_small (point_from (winner_for both_parities 8 (quotients_of x s))) (tab-length ℤ _ 24))
    go false e = subst (λ (c : Coding). c.word < 2 ^ 47) (sym (at-refused both_parities x s 8 (eqb-false _ 0 e))) (lit≤ tt)

-- so those of a page fit it
pub words_fit : (s : Float) (xs : List ℤ) (count : ℕ) → Fit (words_for s xs count)
words_fit s xs count k h =
    let l : k < count = omega (arith, tab-length ℕ (word_for s xs) count) in
    omega (arith, tab_at ℕ 0 (word_for s xs) count k l, word_small s xs k)
