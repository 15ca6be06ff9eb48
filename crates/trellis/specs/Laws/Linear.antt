-- The map from a number to the exclusive-or of columns at its set bits is linear, for any columns; so it is known from its columns alone.
-- Assumes nothing.
use Rattle.std.specs.Prelude.{◌≡◌, refl, Bool, true, ◌&&◌, List, [], ◌∷◌, map, ℕ, zero, suc, ◌+◌, ◌*◌, ◌/◌, ◌%◌, ◌^◌, ◌<◌, T, ltb, length}
use Rattle.std.proofs.Common.{◌∙◌, sym, ap, ap₂, mul-zero, zero-mul, mul-one, mul_comm, mul_assoc, add-mul, pow-suc, lt-suc_self, add-one, arith, ltb→lt, pow_pos}
use Rattle.std.proofs.Math.Nat.{mod-one}
use Rattle.std.proofs.Math.Pow.{pow-lt, field, mod-mod-pow}
use Rattle.std.proofs.lemmas.Nat.{mod-pow-add, xor_lt, xor_comm}
use Rattle.std.specs.Int.Bits.{bit_xor, xor_shifted}
use Rattle.laws.specs.Laws.Tests.{and_left, and_right}
use Rattle.trellis.specs.Laws.Xor.{xor_half, xor-odd, xor_swap, xor_times}
use Rattle.trellis.specs.Code.{codeword_of}
use Rattle.laws.specs.Laws.Whole.{bit-small}

-- a number taken or left by a bit fits where it did
pub bit-lt : (c b n : ℕ) → c < 2 ^ n → b < 2 → c * b < 2 ^ n
bit-lt c zero n h k = omega arith
bit-lt c (suc zero) n h k = omega arith
bit-lt c (suc (suc b)) n h k = absurd (omega arith)

-- the word of a sum is the sum of the words
pub linear : (cs : List ℕ) (x y : ℕ) → codeword_of cs (bit_xor x y) ≡ bit_xor (codeword_of cs x) (codeword_of cs y)
linear [] x y = refl
linear (c ∷ cs) x y =
    ap₂ (λ (u v : ℕ). bit_xor (c * u) (codeword_of cs v)) (xor-odd x y) (xor_half x y)
    ∙ ap₂ bit_xor (xor_times c (x % 2) (y % 2) (bit-small x) (bit-small y)) (linear cs (x / 2) (y / 2))
    ∙ xor_swap (c * (x % 2)) (c * (y % 2)) (codeword_of cs (x / 2)) (codeword_of cs (y / 2))

pub word_zero : (cs : List ℕ) → codeword_of cs 0 ≡ 0
word_zero [] = refl
word_zero (c ∷ cs) = ap₂ bit_xor (mul-zero c) (word_zero cs)

-- ---- one map after another has the columns' words for its columns
times_bit : (cs : List ℕ) (c b : ℕ) → b < 2 → codeword_of cs (c * b) ≡ codeword_of cs c * b
times_bit cs c zero h = ap (codeword_of cs) (mul-zero c) ∙ word_zero cs ∙ sym (mul-zero (codeword_of cs c))
times_bit cs c (suc zero) h = ap (codeword_of cs) (mul-one c) ∙ sym (mul-one (codeword_of cs c))
times_bit cs c (suc (suc b)) h = absurd (omega arith)

pub compose : (bs cs : List ℕ) (x : ℕ) → codeword_of bs (codeword_of cs x) ≡ codeword_of (map (codeword_of bs) cs) x
compose bs [] x = word_zero bs
compose bs (c ∷ cs) x =
    linear bs (c * (x % 2)) (codeword_of cs (x / 2)) ∙ ap₂ bit_xor (times_bit bs c (x % 2) (bit-small x)) (compose bs cs (x / 2))

-- ---- the columns 1, 2, 4, .. give the number itself, as far as they go
abbrev pub powers : ℕ → ℕ → List ℕ
powers k zero = []
powers k (suc n) = 2 ^ k ∷ powers (suc k) n

split_times : (q r P : ℕ) → q * (P * 2) + P * r ≡ (q * 2 + r) * P
split_times q r P =
    sym (add-mul (q * 2) r P ∙ ap₂ (λ (a b : ℕ). a + b) (mul_assoc q 2 P ∙ ap (λ (a : ℕ). q * a) (mul_comm 2 P)) (mul_comm r P))

low_digit : (x n : ℕ) → x / 2 % 2 ^ n * 2 + x % 2 ≡ x % 2 ^ suc n
low_digit x n = sym (ap (λ (m : ℕ). x % 2 ^ m) (sym (add-one n)) ∙ mod-pow-add x n 1)

pub powers_word : (n k x : ℕ) → codeword_of (powers k n) x ≡ x % 2 ^ n * 2 ^ k
powers_word zero k x = sym (ap (λ (m : ℕ). m * 2 ^ k) (mod-one x) ∙ zero-mul (2 ^ k))
powers_word (suc n) k x =
    ap (λ (w : ℕ). bit_xor (2 ^ k * (x % 2)) w) (powers_word n (suc k) (x / 2))
    ∙ xor_comm (2 ^ k * (x % 2)) (x / 2 % 2 ^ n * 2 ^ suc k)
    ∙ xor_shifted (x / 2 % 2 ^ n) (suc k) (2 ^ k * (x % 2)) (bit-lt (2 ^ k) (x % 2) (suc k) (pow-lt (lt-suc_self k)) (bit-small x))
    ∙ ap (λ (P : ℕ). x / 2 % 2 ^ n * P + 2 ^ k * (x % 2)) (pow-suc 2 k)
    ∙ split_times (x / 2 % 2 ^ n) (x % 2) (2 ^ k)
    ∙ ap (λ (m : ℕ). m * 2 ^ k) (low_digit x n)

-- ---- bits past the last column say nothing
pub word_low : (cs : List ℕ) (x : ℕ) → codeword_of cs (x % 2 ^ length cs) ≡ codeword_of cs x
word_low [] x = refl
word_low (c ∷ cs) x =
    ap₂ (λ (b y : ℕ). bit_xor (c * b) (codeword_of cs y)) odd half ∙ ap (λ (w : ℕ). bit_xor (c * (x % 2)) w) (word_low cs (x / 2))
  where
    odd : x % 2 ^ suc (length cs) % 2 ≡ x % 2
    odd = ap (λ (m : ℕ). x % 2 ^ m % 2) (sym (add-one (length cs))) ∙ mod-mod-pow x (length cs) 1

    half : x % 2 ^ suc (length cs) / 2 ≡ x / 2 % 2 ^ length cs
    half = ap (λ (m : ℕ). x % 2 ^ m / 2) (sym (add-one (length cs))) ∙ field x (length cs) 1

-- ---- columns of n bits give words of n bits
abbrev pub all_below : ℕ → List ℕ → Bool
all_below n [] = true
all_below n (c ∷ cs) = ltb c (2 ^ n) && all_below n cs

pub word_below : (n : ℕ) (cs : List ℕ) → T (all_below n cs) → (x : ℕ) → codeword_of cs x < 2 ^ n
word_below n [] t x = pow_pos n
word_below n (c ∷ cs) t x =
    xor_lt n (c * (x % 2)) (codeword_of cs (x / 2))
    (bit-lt c (x % 2) n (ltb→lt c (2 ^ n) (and_left (ltb c (2 ^ n)) (all_below n cs) t)) (bit-small x))
    (word_below n cs (and_right (ltb c (2 ^ n)) (all_below n cs) t) (x / 2))
