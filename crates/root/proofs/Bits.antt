-- A double's bits and its units, both ways: the field of the exponent says how many places the digits are moved. Assumes nothing.
use mathlib.Core.Path.{◌≡◌, sym, ap, ◌∙◌, subst}
use mathlib.Core.Bool.{Bool, false, cond, not}
use mathlib.Core.Logic.{◌⊎◌, inl, inr}
use Prim.Native.Nat.{ℕ, suc, ◌+◌, ◌-◌, ◌*◌, ◌/◌, ◌%◌, ◌^◌, ◌≤◌, ◌<◌}
use native.Mathlib.Nat.{
  le_trans,
  le_of_eq,
  lt_of_lt_of_le,
  lt_irrefl,
  not-le_of_lt,
  eq-or-lt_of_le,
  eq-zero-or-pos,
  zero-add,
  mul-lt-mul_of_pos_right,
  le-div_iff_mul-le,
  mul-div_cancel,
  pow-suc,
}
use native.Mathlib.Omega.{arith}
use lib.Dec.{T, leb, eqb, leb→le, eqb→eq, not_T}
use lib.Pow.{pow-add, pow_pos}
use lib.Ieee.{Float, nan, inf, binary64, size, fits, to_bits, of_bits, of_fields, odd}
use lib.Ieee.Bits.{of_bits-fits, cond_no, is_false}
use lib.Ieee.Digits.{size-le, size_reaches}
use lib.Ieee.Exact.{HasValue, odd_sign}
use lib.Ieee.Fits.{kept-lt}
use Rattle.float.specs.Value.{U, mag_units}
use Rattle.float.specs.Laws.Exact.{Exactly, exactly, digits, mag-lt, bits_of, bits_are}
use Rattle.root.specs.Laws.{multiple}
use Rattle.root.specs.Inner.{Above, Apart}

-- ---- from bits to units
-- the bits are k * 2 ^ 52 + q, where the number of units is q * 2 ^ k, and q has all 53 digits unless k is 0
record Pattern (x : Float) (b q k : ℕ) : Type 0 where
  bits : b ≡ k * 2 ^ 52 + q
  mag : q * 2 ^ k ≡ mag_units x
  small : q < 2 ^ 53
  full : (k ≡ 0) ⊎ (2 ^ 52 ≤ q)
  k-le : k ≤ 2045

-- how many digits the format drops: all of them are 0
abbrev dropped : ℕ → ℕ
dropped g = size g - 53

exact_cut : (g m j : ℕ) → g ≡ m * 2 ^ j → m < 2 ^ 53 → g / 2 ^ dropped g * 2 ^ dropped g ≡ g
exact_cut g m j e h =
    let k = dropped g in
    let k-le : k ≤ j =
    spare (size g)
    (size-le g (53 + j)
    (subst (λ (z : ℕ). z < 2 ^ (53 + j)) (sym e) (lt_of_lt_of_le (mul-lt-mul_of_pos_right h (pow_pos j)) (le_of_eq (sym (pow-add 2 53 j)))))) in
    let r = m * 2 ^ (j - k) in
    let g_is : g ≡ r * 2 ^ k = e ∙ multiple m j k k-le in
    ap (λ (z : ℕ). z / 2 ^ k * 2 ^ k) g_is ∙ ap (λ (z : ℕ). z * 2 ^ k) (mul-div_cancel r (pow_pos k)) ∙ sym g_is
  where
    spare : (z : ℕ) → z ≤ 53 + j → z - 53 ≤ j
    spare z h = omega arith

full_cut : (g : ℕ) → 0 < dropped g → 2 ^ 52 ≤ g / 2 ^ dropped g
full_cut g h =
    (le-div_iff_mul-le (pow_pos (dropped g))).1
    (le_trans (le_of_eq (sym (pow-add 2 52 (dropped g)))) (size_reaches g (52 + dropped g) (in_use (size g) h)))
  where
    in_use : (z : ℕ) → 0 < z - 53 → 52 + (z - 53) < z
    in_use z h = omega arith

pattern : (x : Float) → T (fits binary64 x) → Above x
    → Pattern x (to_bits binary64 x) (mag_units x / 2 ^ dropped (mag_units x)) (dropped (mag_units x))
pattern x f a =
    let g = mag_units x in
    let d = digits x f a.fin in
    record {
      bits = bits_are x f a.fin ∙ ap (λ (s : Bool). bits_of s g) a.sign ∙ ap (λ (z : ℕ). z + g / 2 ^ dropped g) (zero-add (dropped g * 2 ^ 52));
      mag = exact_cut g d.m d.j d.mag d.small;
      small = kept-lt 53 g;
      full = elim (eq-zero-or-pos (dropped g)) [ inl z ↦ inl z | inr h ↦ inr (full_cut g h) ];
      k-le = top (size g) (size-le g 2098 (mag-lt x f a.fin));
    }
  where
    top : (z : ℕ) → z ≤ 2098 → z - 53 ≤ 2045
    top z h = omega arith

apart_is : {x : Float} {b q k : ℕ} (m' k' : ℕ) → Pattern x b q k → m' ≡ q → k' ≡ k → Apart x m' k'
apart_is {x} {b} {q} {k} m' k' p e f =
    record {
      mag = ap (λ (z : ℕ). z * 2 ^ k') e ∙ ap (λ (z : ℕ). q * 2 ^ z) f ∙ p.mag;
      small = subst (λ (z : ℕ). z < 2 ^ 53) (sym e) p.small;
      k-le = subst (λ (z : ℕ). z ≤ 2045) (sym f) p.k-le;
    }

-- a field of 0 counts as 1, without the leading digit
pub apart_low : (x : Float) → T (fits binary64 x) → Above x → to_bits binary64 x / 2 ^ 52 ≡ 0 → Apart x (to_bits binary64 x % 2 ^ 52) 0
apart_low x f a z = go (to_bits binary64 x) (pattern x f a) z
  where
    go : (b : ℕ) {q k : ℕ} → Pattern x b q k → b / 2 ^ 52 ≡ 0 → Apart x (b % 2 ^ 52) 0
    go b {q} {k} p z =
        let e : b ≡ k * 2 ^ 52 + q = p.bits in
        elim p.full [
          | inl n ↦ apart_is (b % 2 ^ 52) 0 p (omega (arith, p.small)) (omega arith)
          | inr n ↦ apart_is (b % 2 ^ 52) 0 p (omega (arith, p.small)) (omega arith)
        ]

pub apart_high : (x : Float) → T (fits binary64 x) → Above x → 0 < to_bits binary64 x / 2 ^ 52
    → Apart x (to_bits binary64 x % 2 ^ 52 + 2 ^ 52) (to_bits binary64 x / 2 ^ 52 - 1)
apart_high x f a z = go (to_bits binary64 x) (pattern x f a) z
  where
    go : (b : ℕ) {q k : ℕ} → Pattern x b q k → 0 < b / 2 ^ 52 → Apart x (b % 2 ^ 52 + 2 ^ 52) (b / 2 ^ 52 - 1)
    go b {q} {k} p z =
        let e : b ≡ k * 2 ^ 52 + q = p.bits in
        let s : q < 2 ^ 53 = p.small in
        elim p.full [
          | inl n ↦ apart_is (b % 2 ^ 52 + 2 ^ 52) (b / 2 ^ 52 - 1) p (omega arith) (omega arith)
          | inr n ↦ apart_is (b % 2 ^ 52 + 2 ^ 52) (b / 2 ^ 52 - 1) p (omega arith) (omega arith)
        ]

-- ---- from units to bits: k * 2 ^ 52 + r, for an r of 53 digits or 2 ^ 53, is r * 2 ^ k units
-- the fields, with that of the exponent below 2047
fields_value : (e t : ℕ) → suc e < 2047 → HasValue (of_fields binary64 false (suc e) t) false ((2 ^ 52 + t) * 2 ^ e) U
unfolding of_fields
fields_value e t h =
    subst (λ (x : Float). HasValue x false ((2 ^ 52 + t) * 2 ^ e) U)
    (sym (cond_no (eqb (suc e) 2047) (cond (eqb t 0) (inf false) nan) (odd 53 false (2 ^ 52 + t) e 1074) (differ (suc e) 2047 h)))
    (odd_sign 53 false (2 ^ 52 + t) e 1074)
  where
    differ : (a b : ℕ) → a < b → T (not (eqb a b))
    differ a b h = not_T (eqb a b) (λ (t : T (eqb a b)). lt_irrefl b (subst (λ (z : ℕ). z < b) (eqb→eq a b t) h))

bits-value : (b e t : ℕ) → b ≡ suc e * 2 ^ 52 + t → t < 2 ^ 52 → suc e < 2047 → HasValue (of_bits binary64 b) false ((2 ^ 52 + t) * 2 ^ e) U
unfolding of_bits
bits-value b e t p q h =
    let small : b < 2 ^ 63 = omega arith in
    let s_is : leb (2 ^ 63) b ≡ false =
    is_false (leb (2 ^ 63) b) (not_T (leb (2 ^ 63) b) (λ (w : T (leb (2 ^ 63) b)). not-le_of_lt small (leb→le (2 ^ 63) b w))) in
    let f_is : b % 2 ^ 63 / 2 ^ 52 ≡ suc e = omega arith in
    let t_is : b % 2 ^ 52 ≡ t = omega arith in
    subst (λ (s : Bool). HasValue (of_fields binary64 s (b % 2 ^ 63 / 2 ^ 52) (b % 2 ^ 52)) false ((2 ^ 52 + t) * 2 ^ e) U) (sym s_is)
    (subst (λ (x : ℕ). HasValue (of_fields binary64 false x (b % 2 ^ 52)) false ((2 ^ 52 + t) * 2 ^ e) U) (sym f_is)
    (subst (λ (x : ℕ). HasValue (of_fields binary64 false (suc e) x) false ((2 ^ 52 + t) * 2 ^ e) U) (sym t_is) (fields_value e t h)))

pub made : (r k : ℕ) → 2 ^ 52 ≤ r → r ≤ 2 ^ 53 → k < 2000 → Exactly (of_bits binary64 (k * 2 ^ 52 + r)) false (r * 2 ^ k)
made r k lo hi h =
    exactly (of_bits binary64 (k * 2 ^ 52 + r)) false (r * 2 ^ k) (of_bits-fits binary64 (k * 2 ^ 52 + r))
    (elim (eq-or-lt_of_le hi) [
      | inl e ↦
          subst (λ (g : ℕ). HasValue (of_bits binary64 (k * 2 ^ 52 + r)) false g U) (carry e)
          (bits-value (k * 2 ^ 52 + r) (suc k) 0 (omega arith) (omega arith) (omega arith))
      | inr l ↦
          subst (λ (g : ℕ). HasValue (of_bits binary64 (k * 2 ^ 52 + r)) false g U) (ap (λ (z : ℕ). z * 2 ^ k) (whole r lo))
          (bits-value (k * 2 ^ 52 + r) k (r - 2 ^ 52) (omega arith) (omega arith) (omega arith))
    ])
  where
    whole : (r : ℕ) → 2 ^ 52 ≤ r → 2 ^ 52 + (r - 2 ^ 52) ≡ r
    whole r h = omega arith

    carry : r ≡ 2 ^ 53 → (2 ^ 52 + 0) * 2 ^ suc k ≡ r * 2 ^ k
    carry e =
        let p : 2 ^ suc k ≡ 2 ^ k * 2 = pow-suc 2 k in
        let q : r * 2 ^ k ≡ 2 ^ 53 * 2 ^ k = ap (λ (z : ℕ). z * 2 ^ k) e in
        omega arith
