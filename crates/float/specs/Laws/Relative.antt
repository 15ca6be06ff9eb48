-- The relative error. A fraction below 2 ^ 1023, rounded to a double, is off by at most one part in 2 ^ 53 and half a unit: the part is what
-- counts from 2 ^ -1022 on, the half unit below. So is each fraction whose rounded value is finite. Assumes nothing.
use Rattle.std.specs.Prelude.{◌≡◌, ℕ, suc, ◌+◌, ◌-◌, ◌*◌, ◌/◌, ◌^◌, ◌<◌, ◌≤◌, Bool, true, false, cond, T, nat_lt, Float}
use Rattle.std.proofs.Common.{sym, ap, ◌∙◌, subst, inl, inr, le_trans, le_of_eq, lt_of_lt_of_le, mul-one, one-mul, mul_assoc, mul_comm, mul_right_comm, mul-le-mul_right, lt_of_mul-lt-mul_right, le-div_iff_mul-le, eq-zero-or-pos, pow-suc, arith, ltb→lt, pow-add, pow_pos}
use Rattle.std.specs.Float.{inf, binary64}
use Rattle.std.specs.Float.Ieee.{prec, low, size, odd, units, round, fits, unlike, mul, div}
use Rattle.std.specs.Float.Ieee.Digits.{size_reaches}
use Rattle.std.specs.Float.Ieee.Fits.{round_is}
use Rattle.std.specs.Float.Ieee.Order.{drop, kept}
use Rattle.std.specs.Float.Ieee.Scale.{finite, grid}
use Rattle.float.specs.Value.{U, mag_units, is_minus}
use Rattle.float.specs.Laws.Exact.{add_scaled, times_scaled}
use Rattle.float.specs.Laws.Error.{Off, off_rescale, kept_off, round_grid, rescale-lt}
use Rattle.float.specs.Laws.Arithmetic.{Fraction, mul-fraction, div-fraction}

-- ---- the place of the last digit that is kept of n / den: one, where none is dropped, or else at most one part of n in 2 ^ 52
reach : (n den : ℕ) → 0 < den → den * 2 ^ drop 53 n den * 2 ^ 52 ≤ n + 2 ^ 52 * den
reach n den D =
    let k = drop 53 n den in
    elim (eq-zero-or-pos k) [
      | inl e ↦
          subst (λ (z : ℕ). den * 2 ^ z * 2 ^ 52 ≤ n + 2 ^ 52 * den) (sym e)
          (last (den * 1 * 2 ^ 52) (2 ^ 52 * den) (ap (λ (z : ℕ). z * 2 ^ 52) (mul-one den) ∙ mul_comm den (2 ^ 52)))
      | inr p ↦
          first (den * 2 ^ k * 2 ^ 52) (2 ^ 52 * den)
          (le_trans
          (le_of_eq
          (mul_assoc den (2 ^ k) (2 ^ 52)
          ∙ mul_comm den (2 ^ k * 2 ^ 52)
          ∙ ap (λ (z : ℕ). z * den) (mul_comm (2 ^ k) (2 ^ 52) ∙ sym (pow-add 2 52 k))))
          ((le-div_iff_mul-le D).0 (size_reaches (n / den) (52 + k) (in_use (size (n / den)) p))))
    ]
  where
    in_use : (z : ℕ) → 0 < z - 53 → 52 + (z - 53) < z
    in_use z h = omega arith

    first : (a b : ℕ) → a ≤ n → a ≤ n + b
    first a b h = omega arith

    last : (a b : ℕ) → a ≡ b → a ≤ n + b
    last a b h = omega arith

close : (n den : ℕ) → 0 < den → Off (n + 2 ^ 52 * den) (kept 53 n den * 2 ^ drop 53 n den * den * 2 ^ 53) (n * 2 ^ 53)
close n den D =
    go (kept 53 n den * 2 ^ drop 53 n den * den) (den * 2 ^ drop 53 n den) (2 ^ 52 * den) (kept_off n den D) (reach n den D)
  where
    go : (g u t : ℕ) → Off u (g * 2) (n * 2) → u * 2 ^ 52 ≤ n + t → Off (n + t) (g * 2 ^ 53) (n * 2 ^ 53)
    go g u t o h = (omega arith, omega arith)

-- it is below 2 ^ 1024, so the result is no infinity
under : (g n den : ℕ) → g * den * 2 ^ 53 ≤ n * 2 ^ 53 + (n + 2 ^ 52 * den) → n < 2 ^ 2097 * den → g < 2 ^ 2098
under g n den p h =
    lt_of_mul-lt-mul_right den
    (lt_of_lt_of_le (go (g * den) (2 ^ 2097 * den) p h (le_trans (le_of_eq (sym (one-mul den))) (mul-le-mul_right den (pow_pos 2097))))
    (le_of_eq (mul_right_comm (2 ^ 2097) den 2 ∙ ap (λ (z : ℕ). z * den) (sym (pow-suc 2 2097)))))
  where
    go : (a m : ℕ) → a * 2 ^ 53 ≤ n * 2 ^ 53 + (n + 2 ^ 52 * den) → n < m → den ≤ m → a < m * 2
    go a m h k l = omega arith

-- ---- x is ±v / w units, but for one part in 2 ^ 53 and half a unit
pub record Close (x : Float) (s : Bool) (v w : ℕ) : Type 0 where
  pub fit : T (fits binary64 x)
  pub fin : T (finite x)
  pub sign : is_minus x ≡ s
  pub hi : mag_units x * w * 2 ^ 53 ≤ v * 2 ^ 53 + v + 2 ^ 52 * w
  pub lo : v * 2 ^ 53 ≤ mag_units x * w * 2 ^ 53 + v + 2 ^ 52 * w

grid_close : {z : Float} {s : Bool} {v w : ℕ} (f : Fraction z s v w) → grid binary64 f.num f.den < 2 ^ 2098 → Close z s v w
grid_close {z} {s} {v} {w} f under =
    let n = f.num * U in
    let den = f.den in
    let D = f.den_pos in
    let r = round binary64 s f.num den in
    let o = close n den D in
    let x = round_grid s f.num den under in
    let g = mag_units r in
    let q : Off (v + 2 ^ 52 * w) (g * w * 2 ^ 53) (v * 2 ^ 53) =
    off_rescale (g * den * 2 ^ 53) (n * 2 ^ 53) (n + 2 ^ 52 * den) (g * w * 2 ^ 53) (v * 2 ^ 53) (v + 2 ^ 52 * w) den w D
    (times_scaled (2 ^ 53) (g * den) w (g * w) den (mul_right_comm g den w)) (times_scaled (2 ^ 53) n w v den f.same)
    (add_scaled n (2 ^ 52 * den) w v (2 ^ 52 * w) den f.same (mul_right_comm (2 ^ 52) den w))
    (subst (λ (i : ℕ). Off (n + 2 ^ 52 * den) (i * den * 2 ^ 53) (n * 2 ^ 53)) (sym x.mag) o) in
    subst (λ (y : Float). Close y s v w) (sym f.is)
    (record {
      fit = x.fit;
      fin = x.fin;
      sign = x.sign;
      hi = grouped (g * w * 2 ^ 53) (v * 2 ^ 53) (2 ^ 52 * w) q.0;
      lo = grouped (v * 2 ^ 53) (g * w * 2 ^ 53) (2 ^ 52 * w) q.1;
    })
  where
    grouped : (a b t : ℕ) → a ≤ b + (v + t) → a ≤ b + v + t
    grouped a b t h = omega arith

fraction-close : {z : Float} {s : Bool} {v w : ℕ} → Fraction z s v w → v < 2 ^ 2097 * w → Close z s v w
fraction-close {z} {s} {v} {w} f high =
    let n = f.num * U in
    let D = f.den_pos in
    grid_close f (under (grid binary64 f.num f.den) n f.den (close n f.den D).0 (rescale-lt n f.den v w (2 ^ 2097) D f.same high))

-- a finite result needs no bound: what is 2 ^ 1024 or more is an infinity
units_under : (s : Bool) (q k : ℕ) → T (finite (units binary64 s q k)) → q * 2 ^ k < 2 ^ 2098
unfolding units
units_under s q k = go (nat_lt (q * 2 ^ k) (2 ^ 2098)) (ltb→lt (q * 2 ^ k) (2 ^ 2098))
  where
    go : (b : Bool) → (T b → q * 2 ^ k < 2 ^ 2098) → T (finite (cond b (odd (suc (prec binary64)) s q k (low binary64)) (inf s))) → q * 2 ^ k < 2 ^ 2098
    go true h t = h tt
    go false h t = absurd t

finite-close : {z : Float} {s : Bool} {v w : ℕ} → Fraction z s v w → T (finite z) → Close z s v w
finite-close {z} {s} f t =
    grid_close f
    (units_under s (kept 53 (f.num * U) f.den) (drop 53 (f.num * U) f.den)
    (subst (λ (y : Float). T (finite y)) (f.is ∙ round_is binary64 s f.num f.den) t))

pub mul-close : (x y : Float) → T (fits binary64 x) → T (fits binary64 y) → T (finite x) → T (finite y) → mag_units x * mag_units y < 2 ^ 2097 * U
    → Close (mul binary64 x y) (unlike (is_minus x) (is_minus y)) (mag_units x * mag_units y) U
mul-close x y fx fy ix iy high = fraction-close (mul-fraction x y fx fy ix iy) high

pub div-close : (x y : Float) → T (fits binary64 x) → T (fits binary64 y) → T (finite x) → T (finite y) → 0 < mag_units y
    → mag_units x * U < 2 ^ 2097 * mag_units y → Close (div binary64 x y) (unlike (is_minus x) (is_minus y)) (mag_units x * U) (mag_units y)
div-close x y fx fy ix iy p high = fraction-close (div-fraction x y fx fy ix iy p) high

pub div-finite : (x y : Float) → T (fits binary64 x) → T (fits binary64 y) → T (finite x) → T (finite y) → 0 < mag_units y
    → T (finite (div binary64 x y)) → Close (div binary64 x y) (unlike (is_minus x) (is_minus y)) (mag_units x * U) (mag_units y)
div-finite x y fx fy ix iy p t = finite-close (div-fraction x y fx fy ix iy p) t
