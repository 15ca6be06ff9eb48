-- The loops: the factor that raises the radicand, and the root digit by digit. Assumes nothing.
use mathlib.Core.Path.{◌≡◌, sym, ap, ◌∙◌}
use Prim.Native.Nat.{ℕ, ◌+◌, ◌-◌, ◌*◌, ◌/◌, ◌%◌, ◌^◌, ◌≤◌, ◌<◌}
use native.Mathlib.Nat.{lt_of_lt_of_le, lt_of_le_of_lt, lt_of_not-le, not-le_of_lt, mul_assoc, mul_comm, mul_left_comm, mul-le-mul, pow-suc}
use native.Mathlib.Numerals.{add-one}
use native.Mathlib.Omega.{arith}
use lib.Pow.{pow-add, pow_mono}
use Rattle.root.specs.Inner.{Even, Step}

-- ---- an even exponent
pub even_odd : (m k : ℕ) → m < 2 ^ 53 → k % 2 ≡ 1 → Even m k (m * 2) (k - 1)
even_odd m k h o =
    let s : k ≡ k - 1 + 1 = omega arith in
    record {
      same =
          mul_assoc m 2 (2 ^ (k - 1))
          ∙ ap (λ (z : ℕ). m * z) (mul_comm 2 (2 ^ (k - 1)) ∙ sym (pow-add 2 (k - 1) 1) ∙ ap (λ (z : ℕ). 2 ^ z) (sym s));
      small = omega arith;
      even = omega arith;
      k-le = omega arith;
    }

-- ---- n = m * 4 ^ h, on the way to 2 ^ 52
pub record Raising (m n h : ℕ) : Type 0 where
  pub is : n ≡ m * (2 ^ h * 2 ^ h)
  pub h_le : h ≤ 26
  pub hi : n < 2 ^ 54
  pub grown : 2 ^ h * 2 ^ h ≤ n

pub raising-next : (m n h : ℕ) → Raising m n h → n < 2 ^ 52 → Raising m (n * 4) (h + 1)
raising-next m n h r l =
    let g : h < 26 =
    lt_of_not-le (λ (k : 26 ≤ h). not-le_of_lt (lt_of_le_of_lt r.grown l) (mul-le-mul (pow_mono k) (pow_mono k))) in
    record {
      is = ap (λ (z : ℕ). z * 4) r.is ∙ mul_assoc m (2 ^ h * 2 ^ h) 4 ∙ ap (λ (z : ℕ). m * z) (sym step);
      h_le = omega arith;
      hi = omega arith;
      grown = omega (arith, r.grown, step);
    }
  where
    step : 2 ^ (h + 1) * 2 ^ (h + 1) ≡ 2 ^ h * 2 ^ h * 4
    step = ap (λ (z : ℕ). z * z) (pow-add 2 h 1) ∙ simp (mul_assoc, mul_comm, mul_left_comm) (omega arith)

-- ---- after i digits: the root of the first 2 i of the 106 digits of m * 2 ^ 52, with the next ones in `left`
pub record Upto (m left i root rem : ℕ) : Type 0 where
  pub at : i ≤ 53
  pub sum : (root * root + rem) * 2 ^ 54 + left ≡ m * 4 ^ i
  pub low : rem ≤ 2 * root
  pub size : root < 2 ^ i
  pub left_lt : left < 2 ^ 54

pub size_now : {m left i root rem : ℕ} → Upto m left i root rem → root < 2 ^ 53
size_now u = lt_of_lt_of_le u.size (pow_mono u.at)

pub upto_next : {m left i root rem root' rem' : ℕ} → Upto m left i root rem → i < 53 → Step root rem (left / 2 ^ 52) root' rem'
    → Upto m (left % 2 ^ 52 * 4) (i + 1) root' rem'
upto_next {m} {left} {i} {root} {rem} {root'} {rem'} u h s =
    let p : 4 ^ (i + 1) ≡ 4 ^ i * 4 = ap (λ (k : ℕ). 4 ^ k) (add-one i) ∙ pow-suc 4 i in
    let q : 2 ^ (i + 1) ≡ 2 ^ i * 2 = ap (λ (k : ℕ). 2 ^ k) (add-one i) ∙ pow-suc 2 i in
    let r : m * 4 ^ (i + 1) ≡ m * 4 ^ i * 4 = ap (λ (k : ℕ). m * k) p ∙ sym (mul_assoc m (4 ^ i) 4) in
    record { at = omega arith; sum = omega (arith, u, s, r); low = s.low; size = omega (arith, u, s, q); left_lt = omega arith }
