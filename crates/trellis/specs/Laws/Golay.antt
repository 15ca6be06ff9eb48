-- The code of golay.rs in natural order, and that in trio order it is the code of the columns, both ways (`golay_in`,
-- `golay_out`), with the octads of Trio among its words (`octads_golay`). So neither the columns nor the octads can be
-- others, though they were changed in definition and code together. Assumes nothing.
use Rattle.std.specs.Prelude.{◌≡◌, refl, List, [], ◌∷◌, map, ℕ, zero, suc, ◌+◌, ◌*◌, ◌/◌, ◌%◌, ◌^◌, ◌<◌, T, ltb}
use Rattle.std.proofs.Common.{◌∙◌, sym, ap, ap₂, add_comm, mul_comm, mul-zero, mul-one, mod-lt, mod-eq_of_lt, zero-lt-suc, arith, ltb→lt}
use Rattle.std.proofs.Math.Nat.{add-mod, mod-add-mod}
use Rattle.std.specs.Int.Bits.{bit_xor, differ, xor_shifted}
use Rattle.std.proofs.lemmas.Nat.{xor_lt}
use Rattle.laws.specs.Words.{weight, tab}
use Rattle.laws.specs.Laws.Tests.{and_left, and_right}
use Rattle.trellis.specs.Code.{codeword_of, columns}
use Rattle.trellis.specs.Trio.{octad1, octad2, octad3, order, places}
use Rattle.trellis.specs.Laws.Xor.{xor_half, xor-odd, xor_swap, xor_times}
use Rattle.trellis.specs.Laws.Linear.{all_below, bit-lt, compose, powers, powers_word, word_below}

-- ---- golay.rs: coordinate i in bit i
-- GEN_POLY, x^11 + x^10 + x^6 + x^5 + x^4 + x^2 + 1
abbrev pub generator : ℕ
generator = 0xc75

-- x^k times it, for k from 0 to 11
unfoldable pub shifts : List ℕ
shifts = tab (λ (k : ℕ). generator * 2 ^ k) 12

-- 23 bits, and their parity as bit 23
abbrev pub extended : ℕ → ℕ
extended c = c + 2 ^ 23 * (weight 23 c % 2)

-- the codeword of a message: the product m(x) g(x) over two elements, which is the exclusive-or of the shifts at the
-- set bits of m, extended
abbrev pub golay_of : ℕ → ℕ
golay_of m = extended (codeword_of shifts m)

-- ---- to trio order: the bit of coordinate i goes to the place of i
unfoldable pub moves : List ℕ
moves = map (λ (j : ℕ). 2 ^ j) places

abbrev pub in_trio : ℕ → ℕ
in_trio w = codeword_of moves w

-- ---- the extended shifts span it: a sum of words has the parity of the sum of their parities, so to extend is linear
differ-sum : (x y : ℕ) → x < 2 → y < 2 → differ x y ≡ (x + y) % 2
differ-sum zero zero h k = refl
differ-sum zero (suc zero) h k = refl
differ-sum zero (suc (suc y)) h k = absurd (omega arith)
differ-sum (suc zero) zero h k = refl
differ-sum (suc zero) (suc zero) h k = refl
differ-sum (suc zero) (suc (suc y)) h k = absurd (omega arith)
differ-sum (suc (suc x)) y h k = absurd (omega arith)

odd_step : (o a b w u v : ℕ) → o ≡ (a + b) % 2 → w % 2 ≡ (u % 2 + v % 2) % 2 → (o + w) % 2 ≡ ((a + u) % 2 + (b + v) % 2) % 2
odd_step o a b w u v e f =
    let r : a + b + (u + v) ≡ a + u + (b + v) = omega arith in
    add-mod o w 2 ∙ ap₂ (λ (x y : ℕ). (x % 2 + y) % 2) e (f ∙ sym (add-mod u v 2)) ∙ sym (add-mod ((a + b) % 2) (u + v) 2)
    ∙ mod-add-mod (a + b) 2 (u + v) ∙ ap (λ (n : ℕ). n % 2) r ∙ add-mod (a + u) (b + v) 2

odd-sum : (d a b : ℕ) → weight d (bit_xor a b) % 2 ≡ (weight d a % 2 + weight d b % 2) % 2
odd-sum zero a b = refl
odd-sum (suc d) a b =
    odd_step (bit_xor a b % 2) (a % 2) (b % 2) (weight d (bit_xor a b / 2)) (weight d (a / 2)) (weight d (b / 2))
    (xor-odd a b ∙ differ-sum (a % 2) (b % 2) (omega arith) (omega arith))
    (ap (λ (w : ℕ). weight d w % 2) (xor_half a b) ∙ odd-sum d (a / 2) (b / 2))

-- words of d bits, and their parity as bit d
module _ (d : ℕ) where
  abbrev longer : ℕ → ℕ
  longer c = c + 2 ^ d * (weight d c % 2)

  on_top : (a p : ℕ) → a < 2 ^ d → a + 2 ^ d * p ≡ bit_xor (2 ^ d * p) a
  on_top a p h =
      add_comm a (2 ^ d * p) ∙ ap (λ (n : ℕ). n + a) (mul_comm (2 ^ d) p) ∙ sym (xor_shifted p d a h)
      ∙ ap (λ (n : ℕ). bit_xor n a) (mul_comm p (2 ^ d))

  tops : (a b p q : ℕ) → a < 2 ^ d → b < 2 ^ d → p < 2 → q < 2
      → bit_xor a b + 2 ^ d * ((p + q) % 2) ≡ bit_xor (a + 2 ^ d * p) (b + 2 ^ d * q)
  tops a b p q ha hb hp hq =
      on_top (bit_xor a b) ((p + q) % 2) (xor_lt d a b ha hb)
      ∙ ap (λ (n : ℕ). bit_xor (2 ^ d * n) (bit_xor a b)) (sym (differ-sum p q hp hq))
      ∙ ap (λ (n : ℕ). bit_xor n (bit_xor a b)) (xor_times (2 ^ d) p q hp hq)
      ∙ xor_swap (2 ^ d * p) (2 ^ d * q) a b
      ∙ ap₂ bit_xor (sym (on_top a p ha)) (sym (on_top b q hb))

  longer-sum : (a b : ℕ) → a < 2 ^ d → b < 2 ^ d → longer (bit_xor a b) ≡ bit_xor (longer a) (longer b)
  longer-sum a b ha hb =
      ap (λ (n : ℕ). bit_xor a b + 2 ^ d * n) (odd-sum d a b)
      ∙ tops a b (weight d a % 2) (weight d b % 2) ha hb (mod-lt (weight d a) (zero-lt-suc 1)) (mod-lt (weight d b) (zero-lt-suc 1))

  module _ (none : longer 0 ≡ 0) where
    longer-bit : (c b : ℕ) → b < 2 → longer (c * b) ≡ longer c * b
    longer-bit c zero h = ap longer (mul-zero c) ∙ none ∙ sym (mul-zero (longer c))
    longer-bit c (suc zero) h = ap longer (mul-one c) ∙ sym (mul-one (longer c))
    longer-bit c (suc (suc b)) h = absurd (omega arith)

    longer_words : (cs : List ℕ) → T (all_below d cs) → (m : ℕ) → longer (codeword_of cs m) ≡ codeword_of (map longer cs) m
    longer_words [] t m = none
    longer_words (c ∷ cs) t m =
        let l = ltb→lt c (2 ^ d) (and_left (ltb c (2 ^ d)) (all_below d cs) t) in
        let u = and_right (ltb c (2 ^ d)) (all_below d cs) t in
        let o = mod-lt m (zero-lt-suc 1) in
        longer-sum (c * (m % 2)) (codeword_of cs (m / 2)) (bit-lt c (m % 2) d l o) (word_below d cs u (m / 2))
        ∙ ap₂ bit_xor (longer-bit c (m % 2) o) (longer_words cs u (m / 2))

extended_shifts : List ℕ
extended_shifts = map extended shifts

shifts_below : T (all_below 23 shifts)
unfolding shifts tab
shifts_below = tt

spanned : (m : ℕ) → golay_of m ≡ codeword_of extended_shifts m
unfolding extended_shifts
spanned m = longer_words 23 refl shifts shifts_below m

-- ---- each of them is a codeword, the one of the label here; and each column is one, of the message here
labels : List ℕ
labels = 0x82c ∷ 0x86c ∷ 0x864 ∷ 0x834 ∷ 0x814 ∷ 0x89d ∷ 0x9e7 ∷ 0xb7a ∷ 0xe67 ∷ 0xc00 ∷ 0x8e7 ∷ 0x980 ∷ []

messages : List ℕ
messages = 0x7d6 ∷ 0x432 ∷ 0xbbf ∷ 0x006 ∷ 0x00f ∷ 0x018 ∷ 0x003 ∷ 0x7e0 ∷ 0x440 ∷ 0xb40 ∷ 0x9a0 ∷ 0xba0 ∷ []

shifts_in : map in_trio (map extended shifts) ≡ map (codeword_of columns) labels
unfolding labels shifts moves columns order places tab
shifts_in = refl

back : map (codeword_of labels) messages ≡ powers 0 12
unfolding labels messages
back = refl

at_label : (m : ℕ) → codeword_of columns (codeword_of labels m) ≡ in_trio (golay_of m)
unfolding extended_shifts
at_label m =
    compose columns labels m
    ∙ ap (λ (cs : List ℕ). codeword_of cs m) (sym shifts_in)
    ∙ sym (compose moves extended_shifts m)
    ∙ ap in_trio (sym (spanned m))

-- ---- each codeword of golay.rs is one of the columns' in trio order
pub golay_in : (m : ℕ) → m < 4096 → (x : ℕ) × (x < 4096) × (codeword_of columns x ≡ in_trio (golay_of m))
unfolding labels
golay_in m h = (codeword_of labels m, word_below 12 labels tt m, at_label m)

-- ---- and each of the columns' is one of golay.rs
pub golay_out : (x : ℕ) → x < 4096 → (m : ℕ) × (m < 4096) × (in_trio (golay_of m) ≡ codeword_of columns x)
unfolding messages
golay_out x h =
    let lt = word_below 12 messages tt x in (
      codeword_of messages x,
      lt,
      sym (at_label (codeword_of messages x))
          ∙ ap (codeword_of columns)
          (compose labels messages x ∙ ap (λ (cs : List ℕ). codeword_of cs x) back ∙ powers_word 12 0 x
          ∙ mul-one (x % 4096) ∙ mod-eq_of_lt h),
    )

-- ---- the octads are codewords of golay.rs
pub octads_golay : (golay_of 0x003 ≡ octad1) × (golay_of 0x140 ≡ octad2) × (golay_of 0xba0 ≡ octad3)
unfolding shifts tab
octads_golay = (refl, refl, refl)
