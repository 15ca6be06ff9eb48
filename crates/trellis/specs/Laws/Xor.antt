-- Exclusive-or regrouped: what the library leaves out. Assumes nothing.
use Rattle.std.specs.Prelude.{◌≡◌, refl, ℕ, zero, suc, ◌+◌, ◌*◌, ◌/◌, ◌%◌, ◌<◌}
use Rattle.std.proofs.Common.{◌∙◌, sym, ap, ap₂, mul-zero, arith}
use Rattle.std.proofs.Math.Arith.{bin_ind, digits_div, digits_mod}
use Rattle.std.specs.Int.Bits.{bit_xor, differ, xor_step, xor_zero_r, xor_self}
use Rattle.std.proofs.lemmas.Nat.{xor_comm}
use Rattle.laws.specs.Laws.Whole.{bit-small}

differ-lt : (x y : ℕ) → x < 2 → y < 2 → differ x y < 2
differ-lt zero y h k = k
differ-lt (suc zero) zero h k = h
differ-lt (suc zero) (suc zero) h k = omega arith
differ-lt (suc zero) (suc (suc y)) h k = absurd (omega arith)
differ-lt (suc (suc x)) y h k = absurd (omega arith)

-- ---- bit by bit
pub xor_half : (a b : ℕ) → bit_xor a b / 2 ≡ bit_xor (a / 2) (b / 2)
xor_half a b =
    ap (λ (x : ℕ). x / 2) (xor_step a b) ∙ digits_div (bit_xor (a / 2) (b / 2)) (differ-lt (a % 2) (b % 2) (bit-small a) (bit-small b))

pub xor-odd : (a b : ℕ) → bit_xor a b % 2 ≡ differ (a % 2) (b % 2)
xor-odd a b =
    ap (λ (x : ℕ). x % 2) (xor_step a b) ∙ digits_mod (bit_xor (a / 2) (b / 2)) (differ-lt (a % 2) (b % 2) (bit-small a) (bit-small b))

differ_assoc : (x y z : ℕ) → x < 2 → y < 2 → z < 2 → differ (differ x y) z ≡ differ x (differ y z)
differ_assoc zero y z hx hy hz = refl
differ_assoc (suc zero) zero z hx hy hz = refl
differ_assoc (suc zero) (suc zero) zero hx hy hz = refl
differ_assoc (suc zero) (suc zero) (suc zero) hx hy hz = refl
differ_assoc (suc zero) (suc zero) (suc (suc z)) hx hy hz = absurd (omega arith)
differ_assoc (suc zero) (suc (suc y)) z hx hy hz = absurd (omega arith)
differ_assoc (suc (suc x)) y z hx hy hz = absurd (omega arith)

pub xor_assoc : (a b c : ℕ) → bit_xor (bit_xor a b) c ≡ bit_xor a (bit_xor b c)
xor_assoc a =
    bin_ind (λ (n : ℕ). (b c : ℕ) → bit_xor (bit_xor n b) c ≡ bit_xor n (bit_xor b c)) (λ b c. refl)
    (λ n ih b c.
    xor_step (bit_xor n b) c
    ∙ ap₂ (λ (x y : ℕ). x * 2 + y)
    (ap (λ (x : ℕ). bit_xor x (c / 2)) (xor_half n b) ∙ ih (b / 2) (c / 2) ∙ ap (λ (x : ℕ). bit_xor (n / 2) x) (sym (xor_half b c)))
    (ap (λ (x : ℕ). differ x (c % 2)) (xor-odd n b) ∙ differ_assoc (n % 2) (b % 2) (c % 2) (bit-small n) (bit-small b) (bit-small c)
    ∙ ap (λ (x : ℕ). differ (n % 2) x) (sym (xor-odd b c)))
    ∙ sym (xor_step n (bit_xor b c))) a

pub xor_swap : (a b c d : ℕ) → bit_xor (bit_xor a b) (bit_xor c d) ≡ bit_xor (bit_xor a c) (bit_xor b d)
xor_swap a b c d =
    xor_assoc a b (bit_xor c d)
    ∙ ap (λ (x : ℕ). bit_xor a x) (sym (xor_assoc b c d) ∙ ap (λ (x : ℕ). bit_xor x d) (xor_comm b c) ∙ xor_assoc c b d)
    ∙ sym (xor_assoc a c (bit_xor b d))

-- nothing differs, so they are the same
pub xor_zero : (x y : ℕ) → bit_xor x y ≡ 0 → x ≡ y
xor_zero x y e =
    sym (xor_zero_r x) ∙ ap (λ (z : ℕ). bit_xor x z) (sym (xor_self y)) ∙ sym (xor_assoc x y y) ∙ ap (λ (z : ℕ). bit_xor z y) e

-- a number taken or left by a bit
pub xor_times : (c x y : ℕ) → x < 2 → y < 2 → c * differ x y ≡ bit_xor (c * x) (c * y)
xor_times c zero y hx hy = ap (λ (z : ℕ). bit_xor z (c * y)) (sym (mul-zero c))
xor_times c (suc zero) zero hx hy = sym (ap (λ (z : ℕ). bit_xor (c * 1) z) (mul-zero c) ∙ xor_zero_r (c * 1))
xor_times c (suc zero) (suc zero) hx hy = mul-zero c ∙ sym (xor_self (c * 1))
xor_times c (suc zero) (suc (suc y)) hx hy = absurd (omega arith)
xor_times c (suc (suc x)) y hx hy = absurd (omega arith)
