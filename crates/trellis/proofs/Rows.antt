-- The states that the branches lead to, out of every state by those out of state 0: codewords add up, and so do these states. One computed
-- test. Assumes nothing.
use Rattle.std.specs.Prelude.{◌≡◌, Bool, List, ℕ, ◌/◌, ◌%◌, ◌<◌, T, eqb, get_or, take}
use Rattle.std.proofs.Common.{◌∙◌, sym, ap, ap₂, arith, eqb→eq, get_or-take}
use Rattle.std.specs.Int.Bits.{bit_xor}
use Rattle.std.proofs.lemmas.Nat.{xor_comm}
use Rattle.laws.specs.Laws.Tests.{upto}
use Rattle.laws.specs.Laws.Tables.{every}
use Rattle.laws.specs.Laws.Lists.{tab-eq}
use Rattle.trellis.specs.Tables.{nexts}
use Rattle.trellis.specs.Trellis.{row, next_of, first_nexts}
use Rattle.trellis.specs.Laws.Xor.{xor_assoc}
use Rattle.trellis.specs.Laws.Path.{nexts-length}
use Rattle.trellis.specs.Laws.Rows.{along, sums_of}

-- ---- next states: those of state 0
unfoldable pub zero_nexts : List ℕ
zero_nexts = row 16 nexts 0

next_sum : ℕ → ℕ → ℕ → Bool
next_sum s b x = eqb (bit_xor (bit_xor (s / 8) (get_or zero_nexts (s % 8) 0)) (get_or zero_nexts b 0)) x

next-sums : T (upto 64 (λ (s : ℕ). every (next_sum s) 0 (row 16 nexts s)))
unfolding next_sum zero_nexts nexts
next-sums = tt

pub next-sum : (s b : ℕ) → s < 64 → b < 16 → bit_xor (bit_xor (s / 8) (get_or zero_nexts (s % 8) 0)) (get_or zero_nexts b 0) ≡ next_of s b
unfolding next_sum next_of
next-sum s b h k = eqb→eq _ _ (along nexts next_sum nexts-length next-sums s b h k)

-- a state leads where the state of its remainder by 8 does, with the bits of its quotient turned
pub next_by : (s b : ℕ) → s < 64 → b < 16 → bit_xor (s / 8) (next_of (s % 8) b) ≡ next_of s b
next_by s b h k =
    let q : s % 8 / 8 ≡ 0 = omega arith in
    let r : s % 8 % 8 ≡ s % 8 = omega arith in
    ap (bit_xor (s / 8))
    (sym (next-sum (s % 8) b (omega arith) k) ∙ ap₂ (λ (x y : ℕ). bit_xor (bit_xor x (get_or zero_nexts y 0)) (get_or zero_nexts b 0)) q r)
    ∙ sym (xor_assoc (s / 8) (get_or zero_nexts (s % 8) 0) (get_or zero_nexts b 0)) ∙ next-sum s b h k

unfoldable pub zero_first : List ℕ
zero_first = take 8 zero_nexts

pub first_nexts_lem : sums_of zero_first zero_nexts ≡ first_nexts
unfolding sums_of first_nexts zero_first
first_nexts_lem =
    tab-eq ℕ 0 (λ (i : ℕ). bit_xor (get_or zero_nexts (i % 16) 0) (get_or (take 8 zero_nexts) (i / 16) 0)) (λ (i : ℕ). next_of (i / 16) (i % 16)) 128
    (λ i h.
    let q : 0 ≡ i / 16 / 8 = omega arith in
    let r : i / 16 ≡ i / 16 % 8 = omega arith in
    ap (bit_xor (get_or zero_nexts (i % 16) 0)) (get_or-take 8 zero_nexts (i / 16) 0 (omega arith))
    ∙ xor_comm (get_or zero_nexts (i % 16) 0) (get_or zero_nexts (i / 16) 0)
    ∙ ap₂ (λ (x y : ℕ). bit_xor (bit_xor x (get_or zero_nexts y 0)) (get_or zero_nexts (i % 16) 0)) q r
    ∙ next-sum (i / 16) (i % 16) (omega arith) (omega arith))
