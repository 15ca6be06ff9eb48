-- The error of rounding. A fraction below 2 ^ b, rounded to a double, is off by at most half a place of its last digit: 2 ^ (b - 54).
-- Assumes nothing.
use Rattle.std.specs.Prelude.{◌≡◌, ℕ, suc, ◌+◌, ◌-◌, ◌*◌, ◌/◌, ◌%◌, ◌^◌, ◌<◌, ◌≤◌, Bool, T, Float}
use Rattle.std.proofs.Common.{sym, ap, ◌∙◌, subst, le_trans, le_of_eq, lt_of_lt_of_le, lt_of_le_of_lt, mul_comm, mul_assoc, mul_right_comm, add-mul, suc-mul, mul-pos, mul-le-mul_right, mul-le-mul_left, mul-lt-mul_of_pos_right, lt_of_mul-lt-mul_right, le_of_mul-le-mul_right, le_refl, div-add-mod', div-lt_iff_lt-mul, mod-lt, pow-suc, arith, pow_pos, pow_mono}
use Prim.Native.Nat.{compare, Ordering}
use Rattle.std.proofs.Math.Nat.{add-lt-add_of_lt_of_le}
use Rattle.std.specs.Float.{binary64}
use Rattle.std.specs.Float.Ieee.{size, nearest, round, fits}
use Rattle.std.specs.Float.Ieee.Digits.{size-le}
use Rattle.std.specs.Float.Ieee.Fits.{round_is, round-fits}
use Rattle.std.specs.Float.Ieee.Exact.{HasValue, units_val}
use Rattle.std.specs.Float.Ieee.Nearest.{closest}
use Rattle.std.specs.Float.Ieee.Order.{drop, kept}
use Rattle.std.specs.Float.Ieee.Scale.{finite, grid}
use Rattle.laws.specs.Laws.Order.{Ordered, compared}
use Rattle.float.specs.Value.{U, mag_units, is_minus}
use Rattle.float.specs.Laws.Exact.{Exactly, exactly, add_scaled}

-- ---- a is off n by at most t
abbrev pub Off : ℕ → ℕ → ℕ → Type 0
Off t a n = (a ≤ n + t) × (n ≤ a + t)

-- the same over another denominator: a / den, n / den and t / den are c / w, v / w and s / w
pub off_rescale : (a n t c v s den w : ℕ) → 0 < den → a * w ≡ c * den → n * w ≡ v * den → t * w ≡ s * den → Off t a n → Off s c v
off_rescale a n t c v s den w D p q r o = (
  over a (n + t) c (v + s) p (add_scaled n t w v s den q r) o.0,
  over n (a + t) v (c + s) q (add_scaled a t w c s den p r) o.1,
)
  where
    over : (a b c d : ℕ) → a * w ≡ c * den → b * w ≡ d * den → a ≤ b → c ≤ d
    over a b c d p q h = le_of_mul-le-mul_right (le_trans (le_of_eq (sym p)) (le_trans (mul-le-mul_right w h) (le_of_eq q))) D

-- ---- the whole number nearest to n / u is off it by half at most
-- the quotient q with the remainder r, moved up or not
half_off : (q r u : ℕ) (o : Ordering) → r < u → Ordered o (r * 2) u → Off u (nearest q o * u * 2) ((q * u + r) * 2)
half_off q r u Ordering.lt l c = (omega arith, omega arith)
half_off q r u Ordering.eq l c =
    let a : nearest q Ordering.eq * u ≡ q * u + q % 2 * u = add-mul q (q % 2) u in
    let small : q % 2 ≤ 1 = omega arith in
    let b : q % 2 * u ≤ 1 * u = mul-le-mul_right u small in
    (omega arith, omega arith)
half_off q r u Ordering.gt l c =
    let a : nearest q Ordering.gt * u ≡ q * u + u = suc-mul q u in
    (omega arith, omega arith)

closest_off : (n u : ℕ) → 0 < u → Off u (closest n u * u * 2) (n * 2)
closest_off n u P =
    subst (λ (x : ℕ). Off u (closest n u * u * 2) (x * 2)) (div-add-mod' n u)
    (half_off (n / u) (n % u) u (compare (n % u * 2) u) (mod-lt n P) (compared (n % u * 2) u))

-- the digits that are kept of n / den: the place of the last of them is 2 ^ drop 53 n den
pub kept_off : (n den : ℕ) → 0 < den → Off (den * 2 ^ drop 53 n den) (kept 53 n den * 2 ^ drop 53 n den * den * 2) (n * 2)
kept_off n den D =
    let k = drop 53 n den in
    let v = kept 53 n den in
    let e : v * (den * 2 ^ k) ≡ v * 2 ^ k * den = ap (λ (x : ℕ). v * x) (mul_comm den (2 ^ k)) ∙ sym (mul_assoc v (2 ^ k) den) in
    subst (λ (a : ℕ). Off (den * 2 ^ k) (a * 2) (n * 2)) e (closest_off n (den * 2 ^ k) (mul-pos D (pow_pos k)))

-- ---- half a place of the last digit of a double below 2 ^ b, in units
abbrev pub half_ulp : ℕ → ℕ
half_ulp b = 2 ^ (b + 1020)

-- the place itself: of the whole part of n / den, which is below 2 ^ (b + 1074), all but 53 digits are dropped
place-le : (n den b : ℕ) → 0 < den → n < 2 ^ (b + 1074) * den → 2 ^ drop 53 n den ≤ half_ulp b * 2
place-le n den b D h =
    le_trans (pow_mono (spare (size (n / den)) (size-le (n / den) (b + 1074) ((div-lt_iff_lt-mul D).1 h))))
    (le_of_eq (pow-suc 2 (b + 1020)))
  where
    spare : (z : ℕ) → z ≤ b + 1074 → z - 53 ≤ suc (b + 1020)
    spare z h = omega arith

-- so the kept digits, in units, are within half_ulp b of the fraction n / den
off : (n den b : ℕ) → 0 < den → n < 2 ^ (b + 1074) * den → Off (half_ulp b * den) (kept 53 n den * 2 ^ drop 53 n den * den) n
off n den b D h =
    let k = drop 53 n den in
    let q : den * 2 ^ k ≤ half_ulp b * den * 2 =
    le_trans (mul-le-mul_left den (place-le n den b D h))
    (le_of_eq (mul_comm den (half_ulp b * 2) ∙ mul_right_comm (half_ulp b) 2 den)) in
    halve (kept 53 n den * 2 ^ k * den) (den * 2 ^ k) (half_ulp b * den) (kept_off n den D) q
  where
    halve : (g u t : ℕ) → Off u (g * 2) (n * 2) → u ≤ t * 2 → Off t g n
    halve g u t o z = (omega arith, omega arith)

-- it is below 2 ^ 1024, so the result is no infinity
under : (g n den b : ℕ) → Off (half_ulp b * den) (g * den) n → n < 2 ^ (b + 1074) * den → b ≤ 1023 → g < 2 ^ 2098
under g n den b o h B =
    lt_of_mul-lt-mul_right den
    (lt_of_le_of_lt o.0
    (lt_of_lt_of_le (add-lt-add_of_lt_of_le h (le_refl (half_ulp b * den)))
    (le_trans (le_of_eq (sym (add-mul (2 ^ (b + 1074)) (half_ulp b) den))) (mul-le-mul_right den top))))
  where
    one : b + 1074 ≤ 2097
    one = omega arith

    other : b + 1020 ≤ 2097
    other = omega arith

    add2 : (x y z : ℕ) → x ≤ z → y ≤ z → x + y ≤ z * 2
    add2 x y z p q = omega arith

    top : 2 ^ (b + 1074) + half_ulp b ≤ 2 ^ 2098
    top = le_trans (add2 (2 ^ (b + 1074)) (half_ulp b) (2 ^ 2097) (pow_mono one) (pow_mono other)) (le_of_eq (sym (pow-suc 2 2097)))

pub round_grid : (s : Bool) (num den : ℕ) → grid binary64 num den < 2 ^ 2098 → Exactly (round binary64 s num den) s (grid binary64 num den)
round_grid s num den h =
    exactly (round binary64 s num den) s (grid binary64 num den) (round-fits binary64 s num den)
    (subst (λ (z : Float). HasValue z s (grid binary64 num den) U) (sym (round_is binary64 s num den))
    (units_val binary64 s (kept 53 (num * U) den) (drop 53 (num * U) den) h))

-- ---- THE ERROR LEMMA. x is a finite double of the sign s that is off v / w units by at most half_ulp b
pub record Rounded (x : Float) (s : Bool) (v w b : ℕ) : Type 0 where
  pub fit : T (fits binary64 x)
  pub fin : T (finite x)
  pub sign : is_minus x ≡ s
  pub hi : mag_units x * w ≤ v + half_ulp b * w
  pub lo : v ≤ mag_units x * w + half_ulp b * w

-- from n / den to v / w, the same fraction
pub rescale-lt : (n den v w t : ℕ) → 0 < den → n * w ≡ v * den → v < t * w → n < t * den
rescale-lt n den v w t D e h =
    lt_of_mul-lt-mul_right w
    (lt_of_le_of_lt (le_of_eq e) (lt_of_lt_of_le (mul-lt-mul_of_pos_right h D) (le_of_eq (mul_right_comm t w den))))

rescale : (g n den v w h : ℕ) → 0 < den → n * w ≡ v * den → Off (h * den) (g * den) n → Off (h * w) (g * w) v
rescale g n den v w h D e o =
    off_rescale (g * den) n (h * den) (g * w) v (h * w) den w D (mul_right_comm g den w) e (mul_right_comm h den w) o

-- num / den is v / w units
pub round_units : (s : Bool) (num den v w b : ℕ) → 0 < den → num * U * w ≡ v * den → v < 2 ^ (b + 1074) * w → b ≤ 1023
    → Rounded (round binary64 s num den) s v w b
round_units s num den v w b D e h B =
    let n = num * U in
    let small : n < 2 ^ (b + 1074) * den = rescale-lt n den v w (2 ^ (b + 1074)) D e h in
    let o = off n den b D small in
    let x = round_grid s num den (under (grid binary64 num den) n den b o small B) in
    let g = mag_units (round binary64 s num den) in
    let r = rescale g n den v w (half_ulp b) D e (subst (λ (z : ℕ). Off (half_ulp b * den) (z * den) n) (sym x.mag) o) in
    record { fit = x.fit; fin = x.fin; sign = x.sign; hi = r.0; lo = r.1 }

-- a common factor of v and w
pub rounded_cancel : {x : Float} {s : Bool} {b : ℕ} (v w u : ℕ) → 0 < w → 0 < u → Rounded x s (v * u) (w * u) b → Rounded x s v w b
rounded_cancel {x} {s} {b} v w u W P r =
    let o = rescale (mag_units x) (v * u) (w * u) v w (half_ulp b) (mul-pos W P) same (r.hi, r.lo) in
    record { fit = r.fit; fin = r.fin; sign = r.sign; hi = o.0; lo = o.1 }
  where
    same : v * u * w ≡ v * (w * u)
    same = mul_assoc v u w ∙ ap (λ (z : ℕ). v * z) (mul_comm u w)
