-- `codeword_of` one column at a time, from the first column on. Assumes nothing.
use Rattle.std.specs.Prelude.{◌≡◌, List, ℕ, ◌+◌, ◌*◌, ◌/◌, ◌%◌, ◌<◌, length, get_or, drop}
use Rattle.std.proofs.Common.{◌∙◌, sym, ap, arith, mul-one, mul-zero}
use Rattle.std.specs.Int.Bits.{bit_xor, bit_and, xor_zero_r}
use lib.Bits.{and_mask}
use Rattle.laws.specs.Laws.Lists.{drop-next}
use Rattle.trellis.specs.Laws.Xor.{xor_assoc}
use Rattle.trellis.specs.Code.{codeword_of}

-- word is what the columns before place i come to, and rest has the bits for those from i on; the column at i comes to it where its bit is set
module _ (cs : List ℕ) (x i word rest : ℕ) (h : i < length cs) (e : bit_xor word (codeword_of (drop i cs) rest) ≡ codeword_of cs x) where
  turn : (b c : ℕ) → rest % 2 ≡ b → get_or cs i 0 * b ≡ c
      → bit_xor (bit_xor word c) (codeword_of (drop (i + 1) cs) (rest / 2)) ≡ codeword_of cs x
  turn b c eb ec =
      let others = codeword_of (drop (i + 1) cs) (rest / 2) in
      xor_assoc word c others
      ∙ ap (bit_xor word)
      (sym
      (ap (λ (l : List ℕ). codeword_of l rest) (drop-next ℕ 0 cs i h)
      ∙ ap (λ (y : ℕ). bit_xor y others) (ap (λ (y : ℕ). get_or cs i 0 * y) eb ∙ ec)))
      ∙ e

  pub word_set : bit_and rest 1 ≡ 1
      → bit_xor (bit_xor word (get_or cs i 0)) (codeword_of (drop (i + 1) cs) (rest / 2)) ≡ codeword_of cs x
  word_set q = turn 1 (get_or cs i 0) (sym (and_mask rest 1) ∙ q) (mul-one (get_or cs i 0))

  pub word_clear : (bit_and rest 1 ≡ 1 → ⊥) → bit_xor word (codeword_of (drop (i + 1) cs) (rest / 2)) ≡ codeword_of cs x
  word_clear n =
      let r : rest % 2 ≡ 0 = omega (arith, λ (q : rest % 2 ≡ 1). n (and_mask rest 1 ∙ q)) in
      ap (λ (y : ℕ). bit_xor y (codeword_of (drop (i + 1) cs) (rest / 2))) (sym (xor_zero_r word)) ∙ turn 0 0 r (mul-zero (get_or cs i 0))
