-- A reason why a point has no word fixes the answer of `encode`, and every point has a reason or a word. Assumes nothing.
use Rattle.std.specs.Prelude.{◌≡◌, refl, Bool, cond, List, eqb, ℤ, length}
use Rattle.std.proofs.Math.Path.{sym, subst}
use Rattle.std.proofs.Common.{◌∙◌, arith, ltb→lt}
use Rattle.std.proofs.Math.Bool.{true, false}
use Prim.Native.Nat.{ℕ, zero, suc, ◌<◌, ◌≤◌}
use Rattle.std.proofs.Math.Dec.{T, lt→ltb, eqb→eq}
use Rattle.laws.specs.Laws.Tests.{is_true, is_false, true_is, eq→eqb}
use Rattle.laws.specs.Laws.Order.{lt-other}
use Rattle.laws.specs.Words.{mod_z}
use Rattle.refusal.specs.Refusal.{mixed_parity, no_codeword, outside, wrong_sum}
use Rattle.word.specs.Word.{word_of}
use Rattle.rank.specs.Vector.{in_middle}
use Rattle.rank.specs.Section.{bits_of, k_sum}
use Rattle.tetra.specs.Lattice.{trio, section_ranks, in_own_class, in_bound}
use Rattle.tetra.specs.Encode.{parity_at, one_parity, label_for, in_code, right_sum, fields_for, encode_of}
use Rattle.tetra.specs.Why.{OfParity, InCode, Inside, Why, has_word, mixed_parity_lem, no_codeword_lem, outside-bound, wrong_sum_lem}
use Rattle.tetra.specs.Laws.Orders.{uniform-at, at-uniform}
use Rattle.tetra.specs.Laws.Word.{code-label, label-code}
use Rattle.tetra.specs.Encode.{Encoded}

-- ---- the first n sections are within their bounds: one by one, and together
pub each_inside : (y : List ℤ) (n : ℕ) → n ≤ 3 → (0 < n → T (in_own_class (section_ranks y 0))) → (1 < n → T (in_middle (section_ranks y 1)))
    → (2 < n → T (in_own_class (section_ranks y 2))) → (s : ℕ) → s < n → Inside y s
unfolding in_bound
each_inside y n h a b c zero l = a l
each_inside y n h a b c (suc zero) l = b l
each_inside y n h a b c (suc (suc zero)) l = c l
each_inside y n h a b c (suc (suc (suc s))) l = absurd (omega arith)

-- ---- the lowest number below n at which a test fails, or none
data Lowest (n : ℕ) (test : ℕ → Bool) : Type 0 where
  none : ((s : ℕ) → s < n → T (test s)) → Lowest n test
  at : (s : ℕ) → s < n → ((t : ℕ) → t < s → T (test t)) → (T (test s) → ⊥) → Lowest n test

lowest : (n : ℕ) (test : ℕ → Bool) → Lowest n test
lowest zero test = none (λ s h. absurd (omega arith))
lowest (suc n) test = go (lowest n test)
  where
    last : ((s : ℕ) → s < n → T (test s)) → (b : Bool) → test n ≡ b → Lowest (suc n) test
    last f true q = none (λ s h. upto s h (eqb n s) refl)
      where
        upto : (s : ℕ) → s < suc n → (b : Bool) → eqb n s ≡ b → T (test s)
        upto s h true e = subst (λ (m : ℕ). T (test m)) (eqb→eq n s (true_is _ e)) (true_is (test n) q)
        upto s h false e = f s (lt-other (λ d. subst T e (eq→eqb n s d)) h)
    last f false q = at n (omega arith) f (subst T q)

    go : Lowest n test → Lowest (suc n) test
    go (none f) = last f (test n) refl
    go (at s h f k) = at s (omega arith) f k

module _ (y : List ℤ) (size : length y ≡ 24) where
  -- ---- each test passes exactly where its part holds
  parity_in : (p : ℕ) → OfParity y p → T (one_parity y)
  unfolding one_parity
  parity_in p o = at-uniform (parity_at y) y (λ k l. o k (omega (arith, size)) ∙ sym (o 0 (omega arith)))

  parity_out : T (one_parity y) → OfParity y (parity_at y)
  unfolding one_parity
  parity_out t i h = uniform-at (parity_at y) y t i (omega (arith, size))

  code_in : InCode y → T (in_code y)
  unfolding in_code
  code_in c = lt→ltb (label_for y) 4096 (code-label (bits_of (trio y)) c)

  code_out : T (in_code y) → InCode y
  unfolding in_code
  code_out t = label-code (bits_of (trio y)) (ltb→lt (label_for y) 4096 t)

  sum_in : mod_z (k_sum y) 2 ≡ parity_at y → T (right_sum y)
  unfolding right_sum
  sum_in e = eq→eqb (mod_z (k_sum y) 2) (parity_at y) e

  sum_out : T (right_sum y) → mod_z (k_sum y) 2 ≡ parity_at y
  unfolding right_sum
  sum_out t = eqb→eq (mod_z (k_sum y) 2) (parity_at y) t

  -- ---- so a reason fixes the answer: its number and section, with the word where the number is 0
  abbrev By : ℕ → ℕ → Encoded
  By n s = record { number = n; section = s; word = cond (eqb n 0) (word_of (fields_for y)) 0 }

  module _ (p : ℕ) (o : OfParity y p) where
    one_parity_lem : one_parity y ≡ true
    one_parity_lem = is_true (one_parity y) (parity_in p o)

    at-codeword : (InCode y → ⊥) → encode_of y ≡ By no_codeword 0
    unfolding encode_of
    at-codeword n = rw (one_parity_lem, is_false (in_code y) (λ t. n (code_out t)))

    module _ (c : InCode y) where
      in_code_lem : in_code y ≡ true
      in_code_lem = is_true (in_code y) (code_in c)

      at_bound : (s : ℕ) → s < 3 → ((t : ℕ) → t < s → Inside y t) → (Inside y s → ⊥) → encode_of y ≡ By outside (suc s)
      unfolding encode_of
      at_bound zero h f n = rw (one_parity_lem, in_code_lem, is_false (in_bound y 0) n)
      at_bound (suc zero) h f n =
          rw (one_parity_lem, in_code_lem, is_true (in_bound y 0) (f 0 (omega arith)), is_false (in_bound y 1) n)
      at_bound (suc (suc zero)) h f n =
          rw (
            one_parity_lem,
            in_code_lem,
            is_true (in_bound y 0) (f 0 (omega arith)),
            is_true (in_bound y 1) (f 1 (omega arith)),
            is_false (in_bound y 2) n,
          )
      at_bound (suc (suc (suc s))) h f n = absurd (omega arith)

      at_sum : ((s : ℕ) → s < 3 → Inside y s) → (b : Bool) → right_sum y ≡ b → encode_of y ≡ cond b (By 0 0) (By wrong_sum 0)
      unfolding encode_of
      at_sum f b q =
          rw (
            one_parity_lem,
            in_code_lem,
            is_true (in_bound y 0) (f 0 (omega arith)),
            is_true (in_bound y 1) (f 1 (omega arith)),
            is_true (in_bound y 2) (f 2 (omega arith)),
            q,
          )

  at-parity : ((p : ℕ) → OfParity y p → ⊥) → encode_of y ≡ By mixed_parity 0
  unfolding encode_of
  at-parity n = rw (is_false (one_parity y) (λ t. n (parity_at y) (parity_out t)))

  pub answered : {n s : ℕ} → Why y n s → encode_of y ≡ By n s
  answered (has_word h) =
      let q = h.point in
      let e : q.p ≡ parity_at y = sym (q.one_parity_lem 0 (omega arith)) in
      at_sum q.p q.one_parity_lem q.codeword (each_inside y 3 (omega arith) (λ l. h.first) (λ l. h.second) (λ l. h.third)) true (is_true (right_sum y) (sum_in (q.sum_of_k ∙ e)))
  answered (mixed_parity_lem n) = at-parity n
  answered (no_codeword_lem p o n) = at-codeword p o n
  answered (outside-bound p s o c h f n) = at_bound p o c s h f n
  answered (wrong_sum_lem p o c f n) =
      at_sum p o c f false (is_false (right_sum y) (λ t. n (sum_out t ∙ o 0 (omega arith))))

  -- ---- and every point has a reason, or a word
  pub record Told : Type 0 where
    pub number : ℕ
    pub section : ℕ
    pub why : Why y number section

  -- where the tests before have passed: by the sections, and by the sum of k
  by-sum : OfParity y (parity_at y) → InCode y → ((s : ℕ) → s < 3 → Inside y s) → (b : Bool) → right_sum y ≡ b → Told
  unfolding in_bound
  by-sum o c f true q =
      record {
        number = 0;
        section = 0;
        why =
            has_word
            (record {
              point = record { size = size; p = parity_at y; one_parity_lem = o; codeword = c; sum_of_k = sum_out (true_is (right_sum y) q) };
              first = f 0 (omega arith);
              second = f 1 (omega arith);
              third = f 2 (omega arith);
            });
      }
  by-sum o c f false q = record { number = wrong_sum; section = 0; why = wrong_sum_lem (parity_at y) o c f (λ e. subst T q (sum_in e)) }

  by_sections : OfParity y (parity_at y) → InCode y → Lowest 3 (in_bound y) → Told
  by_sections o c (none f) = by-sum o c f (right_sum y) refl
  by_sections o c (at s h f n) = record { number = outside; section = suc s; why = outside-bound (parity_at y) s o c h f n }

  pub told : Told
  told = by_parity (one_parity y) refl
    where
      by_code : OfParity y (parity_at y) → (b : Bool) → in_code y ≡ b → Told
      by_code o true q = by_sections o (code_out (true_is (in_code y) q)) (lowest 3 (in_bound y))
      by_code o false q = record { number = no_codeword; section = 0; why = no_codeword_lem (parity_at y) o (λ c. subst T q (code_in c)) }

      by_parity : (b : Bool) → one_parity y ≡ b → Told
      by_parity true q = by_code (parity_out (true_is (one_parity y) q)) (in_code y) refl
      by_parity false q = record { number = mixed_parity; section = 0; why = mixed_parity_lem (λ p o. subst T q (parity_in p o)) }
