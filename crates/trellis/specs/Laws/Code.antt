-- What the 4,096 codewords are: distinct, 24 bits each, of weights 0, 8, 12, 16 and 24, eight or more places apart, each byte of even weight.
-- Assumes nothing.
use Rattle.std.specs.Prelude.{◌≡◌, refl, ◌≢◌, ◌⊎◌, Bool, ◌&&◌, ◌||◌, List, [], ◌∷◌, map, ℕ, ◌+◌, ◌%◌, ◌^◌, ◌<◌, ◌≤◌, T, eqb, leb}
use Rattle.std.proofs.Common.{◌∙◌, subst, sym, ap, inl, inr, mod-lt, mod-eq_of_lt, mul-one, zero-lt-suc, arith, eqb→eq, leb→le}
use Rattle.std.proofs.Math.Logic.{⊎_map}
use Rattle.std.specs.Int.Bits.{bit_xor}
use Rattle.std.proofs.lemmas.Nat.{xor_lt}
use Rattle.laws.specs.Laws.Tests.{or_else, or_cases, split3}
use Rattle.laws.specs.Laws.Tables.{every}
use Rattle.laws.specs.Words.{weight}
use Rattle.trellis.specs.Laws.Xor.{xor_zero}
use Rattle.trellis.specs.Code.{codeword_of, columns, codewords, tally, first, second, third}
use Rattle.trellis.specs.Laws.Linear.{linear, compose, powers, powers_word, word_low, word_below}
use Rattle.trellis.specs.Laws.Words.{words, codewords_are, at_word}

-- the bits of a label past the twelfth say nothing
pub label_low : (x : ℕ) → codeword_of columns (x % 4096) ≡ codeword_of columns x
unfolding columns
label_low x = word_low columns x

pub word_lt : (x : ℕ) → codeword_of columns x < 2 ^ 24
unfolding columns
word_lt x = word_below 24 columns tt x

-- what holds at each label below 4096 holds at every label
all_labels : (P : ℕ → Type 0) → ((x : ℕ) → x < 4096 → P (codeword_of columns x)) → (x : ℕ) → P (codeword_of columns x)
all_labels P p x = subst P (label_low x) (p (x % 4096) (mod-lt x (zero-lt-suc 4095)))

-- ---- distinct: a codeword gives its label back, by columns of its own
unfoldable pub back_columns : List ℕ
back_columns =
    0xe55 ∷ 0x7d8 ∷ 0xced ∷ 0x1ce ∷ 0xb73 ∷ 0x2fa ∷ 0xd67 ∷ 0 ∷ 0xb80 ∷ 0xf00 ∷ 0x680 ∷ 0x580 ∷ 0 ∷ 0 ∷ 0 ∷ 0 ∷ 0x800 ∷ []

back-columns : map (codeword_of back_columns) columns ≡ powers 0 12
unfolding back_columns columns
back-columns = refl

pub back_at : (x : ℕ) → codeword_of back_columns (codeword_of columns x) ≡ x % 4096
back_at x =
    compose back_columns columns x ∙ ap (λ (cs : List ℕ). codeword_of cs x) back-columns ∙ powers_word 12 0 x ∙ mul-one (x % 4096)

pub back-lt : (w : ℕ) → codeword_of back_columns w < 4096
unfolding back_columns
back-lt w = word_below 12 back_columns tt w

pub distinct : (x y : ℕ) → x < 4096 → y < 4096 → codeword_of columns x ≡ codeword_of columns y → x ≡ y
distinct x y hx hy e =
    sym (mod-eq_of_lt hx) ∙ sym (back_at x) ∙ ap (codeword_of back_columns) e ∙ back_at y ∙ mod-eq_of_lt hy

-- ---- weights
-- the weight of a codeword
abbrev pub FiveWeights : ℕ → Type 0
FiveWeights n = (n ≡ 0) ⊎ (n ≡ 8) ⊎ (n ≡ 12) ⊎ (n ≡ 16) ⊎ (n ≡ 24)

abbrev five : ℕ → Bool
five n = eqb n 0 || (eqb n 8 || (eqb n 12 || (eqb n 16 || eqb n 24)))

five_of : (n : ℕ) → T (five n) → FiveWeights n
five_of n t =
    ⊎_map (eqb→eq n 0) (λ u. ⊎_map (eqb→eq n 8) (λ v. ⊎_map (eqb→eq n 12) (λ w. ⊎_map (eqb→eq n 16) (eqb→eq n 24)
    (or_cases (eqb n 16) (eqb n 24) w))
    (or_cases (eqb n 12) (eqb n 16 || eqb n 24) v))
    (or_cases (eqb n 8) (eqb n 12 || (eqb n 16 || eqb n 24)) u))
    (or_cases (eqb n 0) (eqb n 8 || (eqb n 12 || (eqb n 16 || eqb n 24))) t)

-- how many of the sections have odd weight
abbrev odds : ℕ → ℕ
odds w = weight 8 (first w) % 2 + weight 8 (second w) % 2 + weight 8 (third w) % 2

fair : ℕ → ℕ → Bool
fair x w = (eqb x 0 || leb 8 (weight 24 w)) && (five (weight 24 w) && eqb (odds w) 0)

-- the test at each word, and how many words have which weight: in one, so that the words are made and weighed once
all_weighed : T (every fair 0 words)
    × (map (λ (k : ℕ). tally k (map (weight 24) words)) (0 ∷ 8 ∷ 12 ∷ 16 ∷ 24 ∷ []) ≡ 1 ∷ 759 ∷ 2576 ∷ 759 ∷ 1 ∷ [])
unfolding fair words columns
all_weighed = (tt, refl)

pub weights : map (λ (k : ℕ). tally k (map (weight 24) codewords)) (0 ∷ 8 ∷ 12 ∷ 16 ∷ 24 ∷ []) ≡ 1 ∷ 759 ∷ 2576 ∷ 759 ∷ 1 ∷ []
weights = rw codewords_are all_weighed.1

fair_at : (x : ℕ) → x < 4096
    → T (eqb x 0 || leb 8 (weight 24 (codeword_of columns x))) × T (five (weight 24 (codeword_of columns x))) × T (eqb (odds (codeword_of columns x)) 0)
unfolding fair
fair_at x h =
    let w = codeword_of columns x in
    split3 (eqb x 0 || leb 8 (weight 24 w)) (five (weight 24 w)) (eqb (odds w) 0) (at_word fair all_weighed.0 x h)

-- every nonzero codeword weighs at least 8
pub heavy_at : (x : ℕ) → x < 4096 → x ≢ 0 → 8 ≤ weight 24 (codeword_of columns x)
heavy_at x h n =
    leb→le 8 (weight 24 (codeword_of columns x))
    (or_else (eqb x 0) (leb 8 (weight 24 (codeword_of columns x))) (fair_at x h).0 (λ t. n (eqb→eq x 0 t)))

pub weight_at_lem : (x : ℕ) → FiveWeights (weight 24 (codeword_of columns x))
weight_at_lem = all_labels (λ (w : ℕ). FiveWeights (weight 24 w)) (λ x h. five_of (weight 24 (codeword_of columns x)) (fair_at x h).1)

pub weight-even : (x : ℕ) → weight 24 (codeword_of columns x) % 2 ≡ 0
weight-even x = go (weight 24 (codeword_of columns x)) (weight_at_lem x)
  where
    go : (n : ℕ) → FiveWeights n → n % 2 ≡ 0
    go n (inl e) = omega arith
    go n (inr (inl e)) = omega arith
    go n (inr (inr (inl e))) = omega arith
    go n (inr (inr (inr (inl e)))) = omega arith
    go n (inr (inr (inr (inr e)))) = omega arith

-- each section of a codeword has even weight
pub bytes-even : (x : ℕ) → (weight 8 (first (codeword_of columns x)) % 2 ≡ 0) × (weight 8 (second (codeword_of columns x)) % 2 ≡ 0)
    × (weight 8 (third (codeword_of columns x)) % 2 ≡ 0)
bytes-even x = go _ _ _ (all_labels (λ (w : ℕ). odds w ≡ 0) (λ y h. eqb→eq (odds (codeword_of columns y)) 0 (fair_at y h).2) x)
  where
    go : (a b c : ℕ) → a + b + c ≡ 0 → (a ≡ 0) × (b ≡ 0) × (c ≡ 0)
    go a b c e = (omega arith, omega arith, omega arith)

-- two different codewords differ in eight places or more
pub distance : (x y : ℕ) → x < 4096 → y < 4096 → x ≢ y → 8 ≤ weight 24 (bit_xor (codeword_of columns x) (codeword_of columns y))
distance x y hx hy n =
    subst (λ (w : ℕ). 8 ≤ weight 24 w) (linear columns x y)
    (heavy_at (bit_xor x y) (xor_lt 12 x y hx hy) (λ e. n (xor_zero x y e)))
