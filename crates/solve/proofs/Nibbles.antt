-- A packed row read with coordinate 0 most significant: nibbles and bytes swapped by shifts and masks give the number that `lex_of` reads off
-- rank by rank. Assumes nothing.
use mathlib.Core.Path.{◌≡◌, ◌∙◌, ap, ap₂}
use Prim.Native.Nat.{ℕ, ◌+◌, ◌*◌, ◌/◌, ◌%◌, ◌<◌}
use native.Mathlib.Omega.{arith}
use lib.Bits.{bit_and, bit_or, and_block, and_mask, and_high, or_block, or_shifted}
use Rattle.search.specs.Bound.{lex_num, lex_of}
use Rattle.solve.specs.Inner.Flat.{swap_bytes}

-- ---- the bytes swapped
pub bytes : (x : ℕ) → x < 4294967296
    → bit_or (bit_or (bit_or (x * 16777216 % 4294967296) (bit_and x 65280 * 256 % 4294967296)) (bit_and (x / 256) 65280)) (x / 16777216) ≡ swap_bytes x
bytes x h =
    rw (and_high x 8 8, and_high (x / 256) 8 8, a, b, e)
    (rw (or_shifted (x % 256) 24 (x / 256 % 256 * 65536) (omega arith), c)
    (rw (or_shifted (x % 256 * 256 + x / 256 % 256) 16 (x / 256 / 256 % 256 * 256) (omega arith), d)
    (or_shifted ((x % 256 * 256 + x / 256 % 256) * 256 + x / 256 / 256 % 256) 8 (x / 256 / 256 / 256) (omega arith))))
  where
    a : x * 16777216 % 4294967296 ≡ x % 256 * 16777216
    a = omega arith

    b : x / 256 % 256 * 256 * 256 % 4294967296 ≡ x / 256 % 256 * 65536
    b = omega arith

    c : x % 256 * 16777216 + x / 256 % 256 * 65536 ≡ (x % 256 * 256 + x / 256 % 256) * 65536
    c = omega arith

    d : (x % 256 * 256 + x / 256 % 256) * 65536 + x / 256 / 256 % 256 * 256 ≡ ((x % 256 * 256 + x / 256 % 256) * 256 + x / 256 / 256 % 256) * 256
    d = omega arith

    e : x / 16777216 ≡ x / 256 / 256 / 256
    e = omega arith

swapped : (a b c d : ℕ) → a < 256 → b < 256 → c < 256 → d < 256
    → swap_bytes (((a * 256 + b) * 256 + c) * 256 + d) ≡ ((d * 256 + c) * 256 + b) * 256 + a
swapped a b c d ha hb hc hd =
    let e : (((a * 256 + b) * 256 + c) * 256 + d) / 256 ≡ (a * 256 + b) * 256 + c = omega arith in
    let f : ((a * 256 + b) * 256 + c) / 256 ≡ a * 256 + b = omega arith in
    let g : (a * 256 + b) / 256 ≡ a = omega arith in
    rw (e, f, g) (omega arith)

-- ---- the nibbles of each byte swapped
low : (k : ℕ) → k % 16 < 16
low k = omega arith

-- every other nibble of k, under a mask that goes on as b
masked : (k b : ℕ) → bit_and k (b * 256 + 15) ≡ bit_and (k / 16 / 16) b * 256 + k % 16
masked k b =
    ap (λ (x : ℕ). bit_and x (b * 256 + 15)) cut ∙ and_block 8 (k / 16 / 16) b (k % 256) 15 (omega arith) (omega arith)
    ∙ ap (λ (x : ℕ). bit_and (k / 16 / 16) b * 256 + x) (and_mask (k % 256) 4 ∙ inner)
  where
    cut : k ≡ k / 16 / 16 * 256 + k % 256
    cut = omega arith

    inner : k % 256 % 16 ≡ k % 16
    inner = omega arith

joined : (a b r s : ℕ) → r < 16 → s < 16 → bit_or (a * 256 + r * 16) (b * 256 + s) ≡ bit_or a b * 256 + (r * 16 + s)
joined a b r s hr hs =
    or_block 8 a b (r * 16) s (omega arith) (omega arith) ∙ ap (λ (x : ℕ). bit_or a b * 256 + x) (or_shifted r 4 s hs)

abbrev up : ℕ → ℕ
up k = k / 16 / 16

-- nibbles 0, 2, 4 and 6, a byte each
apart : (k : ℕ) → bit_and k 252645135 ≡ ((up (up (up k)) % 16 * 256 + up (up k) % 16) * 256 + up k % 16) * 256 + k % 16
apart k =
    masked k 986895
    ∙ ap (λ (x : ℕ). x * 256 + k % 16)
    (masked (up k) 3855
    ∙ ap (λ (x : ℕ). x * 256 + up k % 16) (masked (up (up k)) 15 ∙ ap (λ (x : ℕ). x * 256 + up (up k) % 16) (and_mask (up (up (up k))) 4)))

-- even nibbles a, b, c, d and odd nibbles p, q, r, s, the highest first: all eight in the other order
turned : (a b c d p q r s : ℕ) → a < 16 → b < 16 → c < 16 → d < 16 → p < 16 → q < 16 → r < 16 → s < 16
    → swap_bytes (bit_or ((((a * 256 + b) * 256 + c) * 256 + d) * 16 % 4294967296) (((p * 256 + q) * 256 + r) * 256 + s))
    ≡ (((d * 16 + s) * 256 + (c * 16 + r)) * 256 + (b * 16 + q)) * 256 + (a * 16 + p)
turned a b c d p q r s ha hb hc hd hp hq hr hs =
    ap swap_bytes
    (ap (λ (x : ℕ). bit_or x (((p * 256 + q) * 256 + r) * 256 + s)) shifted
    ∙ joined ((a * 16 * 256 + b * 16) * 256 + c * 16) ((p * 256 + q) * 256 + r) d s hd hs
    ∙ ap (λ (x : ℕ). x * 256 + (d * 16 + s))
    (joined (a * 16 * 256 + b * 16) (p * 256 + q) c r hc hr
    ∙ ap (λ (x : ℕ). x * 256 + (c * 16 + r)) (joined (a * 16) p b q hb hq ∙ ap (λ (x : ℕ). x * 256 + (b * 16 + q)) (or_shifted a 4 p hp))))
    ∙ swapped (a * 16 + p) (b * 16 + q) (c * 16 + r) (d * 16 + s) (omega arith) (omega arith) (omega arith) (omega arith)
  where
    shifted : (((a * 256 + b) * 256 + c) * 256 + d) * 16 % 4294967296 ≡ ((a * 16 * 256 + b * 16) * 256 + c * 16) * 256 + d * 16
    shifted = omega arith

pub nibbles : (k : ℕ) → swap_bytes (bit_or (bit_and k 252645135 * 16 % 4294967296) (bit_and (k / 16) 252645135)) ≡ lex_of k
unfolding lex_of lex_num
nibbles k =
    ap₂ (λ (a b : ℕ). swap_bytes (bit_or (a * 16 % 4294967296) b)) (apart k) (apart (k / 16))
    ∙ turned _ _ _ _ _ _ _ _ (low (up (up (up k)))) (low (up (up k))) (low (up k)) (low k)
    (low (up (up (up (k / 16))))) (low (up (up (k / 16)))) (low (up (k / 16))) (low (k / 16))
    ∙ omega arith
