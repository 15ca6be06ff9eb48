-- THE EVEN PROFILE'S RULE: which words, points and pages it accepts, and that it answers these as the full coder does; what it answers to the
-- others. Of its samples demands/proofs/Codes, specs/Demand3 and specs/Agrees speak. Assumes nothing.
use Rattle.std.specs.Prelude.{◌≡◌, refl, ◌⊎◌, ◌↔◌, Bool, true, false, cond, List, ℕ, ◌*◌, ◌%◌, ◌^◌, ◌<◌, T, ℤ, pos, length}
use Rattle.std.proofs.Math.Path.{ap}
use Rattle.std.proofs.Common.{sym, subst, ◌∙◌, inl, inr, zero-lt-suc, arith, eq-eqb, ne_eqb}
use Rattle.laws.specs.Words.{tab}
use Rattle.laws.specs.Laws.Tests.{true_is}
use Rattle.refusal.specs.Refusal.{all_odd}
use Rattle.rank.specs.Section.{uniform}
use Rattle.tetra.specs.Lattice.{HasWord}
use Rattle.tetra.specs.Tetra.{point_of}
use Rattle.tetra.specs.Encode.{refused_with, accepted_with, encode_of}
use Rattle.tetra.specs.Why.{OfParity, Why, has_word, mixed_parity_lem, no_codeword_lem, outside-bound, wrong_sum_lem}
use Rattle.tetra.specs.Demand2.{point-length, parity_is, round_trip, Accepted, accepts, why, accepted-back, onto}
use Rattle.tetra.specs.Laws.Orders.{uniform-at, at-uniform}
use Rattle.tetra.specs.Encode.{Encoded}
use Rattle.page.specs.Page.{Page}
use Rattle.page.specs.Answer.{Reading, malformed, words_in, read_of, cells_of}
use Rattle.page.specs.Reader.{reading_of}
use Rattle.page.specs.PageRule.{accepted, on_no_page, on_short_buffer, one_reading, reads}
use Rattle.even.specs.Even.{word_number, even_decoded, even_encoded, any_odd, even_read, even_cells}
use Rattle.even.specs.Laws.Word.{number_zero, number-odd}
use Rattle.even.specs.Laws.Page.{AllEven, SomeOdd, none-odd, some-odd, all-even}

-- ---- words
-- the number is 0 just where the word's point is even, and 13 just where it is odd
pub even_word : (w : ℕ) → (word_number w ≡ 0) ↔ OfParity (point_of w) 0
even_word w = (
  λ e i h. parity_is w i h ∙ (number_zero w).0 e,
  λ f. (number_zero w).1 (sym (parity_is w 0 (zero-lt-suc 23)) ∙ f 0 (zero-lt-suc 23)),
)

pub odd_word : (w : ℕ) → (word_number w ≡ all_odd) ↔ OfParity (point_of w) 1
odd_word w = (
  λ e i h. parity_is w i h ∙ (number-odd w).0 e,
  λ f. (number-odd w).1 (sym (parity_is w 0 (zero-lt-suc 23)) ∙ f 0 (zero-lt-suc 23)),
)

-- an accepted word has the full coder's point, a refused one 24 zeros
pub even_decoded_lem : (w : ℕ) → word_number w ≡ 0 → even_decoded w ≡ record { number = 0; point = point_of w }
unfolding even_decoded
even_decoded_lem w e = rw (eq-eqb (word_number w) 0 e)

pub odd-decoded : (w : ℕ) → word_number w ≡ all_odd → even_decoded w ≡ record { number = all_odd; point = tab (λ (i : ℕ). pos 0) 24 }
unfolding even_decoded
odd-decoded w e = rw (ne_eqb (word_number w) 0 (λ z. omega (arith, e, z)), e)

-- ---- points
-- 13 for a point that is all odd, and for every other one the full coder's answer
both : (y : List ℤ) → length y ≡ 24
    → (OfParity y 1 × (even_encoded y ≡ refused_with all_odd 0)) ⊎ ((OfParity y 1 → ⊥) × (even_encoded y ≡ encode_of y))
unfolding even_encoded
both y l = go (uniform 1 y) refl
  where
    go : (b : Bool) → uniform 1 y ≡ b
        → (OfParity y 1 × (cond b (refused_with all_odd 0) (encode_of y) ≡ refused_with all_odd 0))
        ⊎ ((OfParity y 1 → ⊥) × (cond b (refused_with all_odd 0) (encode_of y) ≡ encode_of y))
    go true e = inl (λ i h. uniform-at 1 y (true_is _ e) i (subst (λ (n : ℕ). i < n) (sym l) h), refl)
    go false e = inr (λ o. subst T e (at-uniform 1 y (λ i h. o i (subst (λ (n : ℕ). i < n) l h))), refl)

pub odd_refused : (y : List ℤ) → length y ≡ 24 → OfParity y 1 → even_encoded y ≡ refused_with all_odd 0
odd_refused y l o = go (both y l)
  where
    go : (OfParity y 1 × (even_encoded y ≡ refused_with all_odd 0)) ⊎ ((OfParity y 1 → ⊥) × (even_encoded y ≡ encode_of y))
        → even_encoded y ≡ refused_with all_odd 0
    go (inl a) = a.1
    go (inr b) = absurd (b.0 o)

pub others_as_full : (y : List ℤ) → length y ≡ 24 → (OfParity y 1 → ⊥) → even_encoded y ≡ encode_of y
others_as_full y l n = go (both y l)
  where
    go : (OfParity y 1 × (even_encoded y ≡ refused_with all_odd 0)) ⊎ ((OfParity y 1 → ⊥) × (even_encoded y ≡ encode_of y)) → even_encoded y ≡ encode_of y
    go (inl a) = absurd (n a.0)
    go (inr b) = b.1

-- no parity is two
not_odd : (y : List ℤ) → OfParity y 0 → OfParity y 1 → ⊥
not_odd y e o = none (sym (e 0 (zero-lt-suc 23)) ∙ o 0 (zero-lt-suc 23))
  where
    none : ◌≡◌ {A = ℕ} 0 1 → ⊥
    none q = omega arith

-- so an even point is answered as by the full coder
pub even_as_full : (y : List ℤ) → length y ≡ 24 → OfParity y 0 → even_encoded y ≡ encode_of y
even_as_full y l e = others_as_full y l (not_odd y e)

-- the full coder never answers 13
never_13 : (y : List ℤ) → length y ≡ 24 → (encode_of y).number ≡ all_odd → ⊥
never_13 y l e = go (why y l) e
  where
    go : {n s : ℕ} → Why y n s → n ≡ all_odd → ⊥
    go (has_word h) q = omega arith
    go (mixed_parity_lem f) q = omega arith
    go (no_codeword_lem p o f) q = omega arith
    go (outside-bound p s o c h f k) q = omega arith
    go (wrong_sum_lem p o c f k) q = omega arith

-- so 13 says that all 24 are odd, and nothing else says it
pub even-refuses : (y : List ℤ) → length y ≡ 24 → ((even_encoded y).number ≡ all_odd) ↔ OfParity y 1
even-refuses y l = (
  λ e. go (both y l) e,
  λ o. ap (λ (r : Encoded). r.number) (odd_refused y l o),
)
  where
    go : (OfParity y 1 × (even_encoded y ≡ refused_with all_odd 0)) ⊎ ((OfParity y 1 → ⊥) × (even_encoded y ≡ encode_of y))
        → (even_encoded y).number ≡ all_odd → OfParity y 1
    go (inl a) e = a.0
    go (inr b) e = absurd (never_13 y l (sym (ap (λ (r : Encoded). r.number) b.1) ∙ e))

-- a point that has a word has the parity of that word
parity_of_lem : (y : List ℤ) → length y ≡ 24 → (encode_of y).number ≡ 0 → OfParity y ((encode_of y).word % 2)
parity_of_lem y l e = subst (λ (z : List ℤ). OfParity z ((encode_of y).word % 2)) (accepted-back y l e) (parity_is (encode_of y).word)

-- what the profile accepts is even, and the answer is the full coder's
pub even_point : (y : List ℤ) → length y ≡ 24 → (even_encoded y).number ≡ 0 → (even_encoded y ≡ encode_of y) × OfParity y 0
even_point y l e = go (both y l)
  where
    go : (OfParity y 1 × (even_encoded y ≡ refused_with all_odd 0)) ⊎ ((OfParity y 1 → ⊥) × (even_encoded y ≡ encode_of y))
        → (even_encoded y ≡ encode_of y) × OfParity y 0
    go (inl a) = absurd (omega (arith, ap (λ (r : Encoded). r.number) a.1, e))
    go (inr b) =
        let w : ℕ = (encode_of y).word in
        let o : OfParity y (w % 2) = parity_of_lem y l (sym (ap (λ (r : Encoded). r.number) b.1) ∙ e) in
        let n : w % 2 ≡ 1 → ⊥ = λ q. b.0 (subst (OfParity y) q o) in
        let z : w % 2 ≡ 0 = omega (arith, n) in
        (b.1, subst (OfParity y) z o)

-- an even point that has a word is accepted, with a word below 2 ^ 47 that decodes to it
pub even-accepts : (y : List ℤ) → HasWord y → OfParity y 0 → Accepted y (even_encoded y)
even-accepts y W e = subst (Accepted y) (sym (even_as_full y W.point.size e)) (accepts y W)

-- so the profile accepts just the even points that have a word
pub even-members : (y : List ℤ) → length y ≡ 24 → ((even_encoded y).number ≡ 0) ↔ (HasWord y × OfParity y 0)
even-members y l = (
  λ e. let p = even_point y l e in (kept (why y l) (sym (ap (λ (r : Encoded). r.number) p.0) ∙ e), p.1),
  λ h. (even-accepts y h.0 h.1).number,
)
  where
    kept : {n s : ℕ} → Why y n s → n ≡ 0 → HasWord y
    kept (has_word h) q = h
    kept (mixed_parity_lem f) q = absurd (omega arith)
    kept (no_codeword_lem p o f) q = absurd (omega arith)
    kept (outside-bound p s o c h f k) q = absurd (omega arith)
    kept (wrong_sum_lem p o c f k) q = absurd (omega arith)

-- ---- words and points
-- the point of an accepted word encodes to the word, without its gain
pub even-round_trip : (w : ℕ) → word_number w ≡ 0 → even_encoded (point_of w) ≡ accepted_with (w % 2 ^ 47)
even-round_trip w e = even_as_full (point_of w) (point-length w) ((even_word w).0 e) ∙ round_trip w

-- and each even point that has a word is the point of an accepted one
pub even-onto : (y : List ℤ) → HasWord y → OfParity y 0 → (w : ℕ) × (w < 2 ^ 47) × (word_number w ≡ 0) × (point_of w ≡ y)
even-onto y W e =
    let q = onto y W in (q.0, q.1, (even_word q.0).1 (subst (λ (z : List ℤ). OfParity z 0) (sym q.2) e), q.2)

-- ---- pages
-- where the profile accepts a page, all of its words are even, and the answer and every cell are the full coder's
pub even_page : (R : Reading) (old : List ℤ) → (even_read R (length old)).number ≡ 0
    → (even_read R (length old) ≡ read_of R (length old)) × (even_cells R old ≡ cells_of R old) × AllEven (words_in R)
unfolding even_read even_cells
even_page R old = go (any_odd (words_in R)) refl
  where
    go : (b : Bool) → any_odd (words_in R) ≡ b
        → (cond b (record { number = all_odd; count = 0 }) (read_of R (length old))).number ≡ 0
        → (cond b (record { number = all_odd; count = 0 }) (read_of R (length old)) ≡ read_of R (length old))
        × (cond b old (cells_of R old) ≡ cells_of R old) × AllEven (words_in R)
    go true e q = absurd (omega (arith, q))
    go false e q = (refl, refl, all-even (words_in R) e)

module _ (text : List ℕ) (old : List ℤ) where
  -- 9 for a text that is no page: it has no words
  pub even_on-no_page : ((num : ℕ) (words : List ℕ) → Page text num words → ⊥)
      → (even_read (reading_of text) (length old) ≡ record { number = 9; count = 0 }) × (even_cells (reading_of text) old ≡ old)
  unfolding even_read even_cells words_in any_odd
  even_on-no_page h =
      let e = one_reading text (reading_of text) malformed (reads text) h in
      let f = on_no_page text old h in (
        ap (λ (R : Reading). even_read R (length old)) e ∙ ap (λ (R : Reading). read_of R (length old)) (sym e) ∙ f.0,
        ap (λ (R : Reading). even_cells R old) e ∙ ap (λ (R : Reading). cells_of R old) (sym e) ∙ f.1,
      )

  module _ (num : ℕ) (words : List ℕ) (p : Page text num words) where
    -- then 13 for a page with an odd word, whatever room there is
    pub even-odd_word : SomeOdd words
        → (even_read (reading_of text) (length old) ≡ record { number = 13; count = 0 }) × (even_cells (reading_of text) old ≡ old)
    unfolding even_read even_cells words_in
    even-odd_word o = rw (accepted text num words p, some-odd words o.0 o.1 o.2) (refl, refl)

    -- any other page is answered as by the full coder: by 8 for a buffer that is too short, and else by its counts
    pub even_on-page : AllEven words
        → (even_read (reading_of text) (length old) ≡ read_of (reading_of text) (length old))
        × (even_cells (reading_of text) old ≡ cells_of (reading_of text) old)
    unfolding even_read even_cells words_in
    even_on-page h = rw (accepted text num words p, none-odd words h) (refl, refl)

    pub even_on_short_buffer : AllEven words → length old < 24 * length words
        → (even_read (reading_of text) (length old) ≡ record { number = 8; count = 0 }) × (even_cells (reading_of text) old ≡ old)
    even_on_short_buffer h l =
        let a = even_on-page h in
        let b = on_short_buffer text old num words p l in
        (a.0 ∙ b.0, a.1 ∙ b.1)
