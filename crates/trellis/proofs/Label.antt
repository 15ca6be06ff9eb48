-- A label is packed by masks and shifts. Assumes nothing.
use mathlib.Core.Path.{◌≡◌, ◌∙◌, ap}
use Prim.Native.Nat.{ℕ, ◌+◌, ◌*◌, ◌-◌, ◌%◌, ◌^◌, ◌<◌, ◌≤◌}
use native.Mathlib.Omega.{arith}
use lib.Pow.{shl_exact}
use lib.Bits.{bit_and, bit_or, and_mask, mask_lt, or_shifted_r}
use Rattle.trellis.specs.Code.{input_of}

-- the n low bits of v, moved up by k, laid over a number below 2 ^ k
lay : (a v n k : ℕ) → a < 2 ^ k → n + k ≤ 32 → bit_or a (bit_and v (2 ^ n - 1) * 2 ^ k % 2 ^ 32) ≡ v % 2 ^ n * 2 ^ k + a
lay a v n k h w =
    ap (bit_or a) (shl_exact n k 32 (mask_lt v n) w) ∙ or_shifted_r (bit_and v (2 ^ n - 1)) k a h
    ∙ ap (λ (x : ℕ). x * 2 ^ k + a) (and_mask v n)

pub packed : (s8 b1 b2 b3 : ℕ)
    → bit_or (bit_or (bit_or (bit_and s8 63) (bit_and b1 1 * 2 ^ 6 % 2 ^ 32)) (bit_and b2 15 * 2 ^ 7 % 2 ^ 32)) (bit_and b3 1 * 2 ^ 11 % 2 ^ 32)
    ≡ input_of s8 b1 b2 b3
packed s8 b1 b2 b3 =
    let x1 = bit_and b1 1 * 2 ^ 6 % 2 ^ 32 in
    let x2 = bit_and b2 15 * 2 ^ 7 % 2 ^ 32 in
    let x3 = bit_and b3 1 * 2 ^ 11 % 2 ^ 32 in
    let m = b1 % 2 * 64 + s8 % 64 in
    let n = b2 % 16 * 128 + m in
    ap (λ (z : ℕ). bit_or (bit_or (bit_or z x1) x2) x3) (and_mask s8 6)
    ∙ ap (λ (z : ℕ). bit_or (bit_or z x2) x3) (lay (s8 % 64) b1 1 6 (omega arith) (omega arith))
    ∙ ap (λ (z : ℕ). bit_or z x3) (lay m b2 4 7 (omega arith) (omega arith))
    ∙ lay n b3 1 11 (omega arith) (omega arith)
    ∙ turn (s8 % 64) (b1 % 2) (b2 % 16) (b3 % 2)
  where
    turn : (a b c d : ℕ) → d * 2048 + (c * 128 + (b * 64 + a)) ≡ a + 64 * b + 128 * c + 2048 * d
    turn a b c d = omega arith
