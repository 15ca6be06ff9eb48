-- A double's units are its value, and they and the sign fix the double; results that are exact. Assumes nothing.
use Rattle.std.specs.Prelude.{◌≡◌, ℕ, zero, suc, ◌+◌, ◌-◌, ◌*◌, ◌/◌, ◌%◌, ◌^◌, ◌<◌, ◌≤◌, Bool, true, false, cond, not, ◌&&◌, T, ℤ, pos, negsuc, from_bits, nat_eq, nat_le, nat_lt, unsigned_abs, refl, Float}
use Rattle.std.proofs.Common.{sym, ap, ap₂, ◌∙◌, subst, le_of_eq, lt_of_lt_of_le, lt_of_le_of_lt, lt_of_not-le, not-le_of_lt, le_of_suc-le-suc, zero-lt-suc, mul-one, zero-mul, mul_assoc, mul_right_comm, add-mul, mul-pos, mul-lt-mul_of_pos_right, lt_of_mul-lt-mul_right, mul-div_cancel, sub-add_cancel, arith, leb→le, ltb→lt, lit≤, pow-add, pow_pos}
use Rattle.std.proofs.Math.Nat.{eq_of_mul-eq-mul_right}
use Rattle.std.proofs.Math.Pow.{pow-lt}
use Rattle.std.specs.Float.{nan, inf, fin, binary64}
use Rattle.std.specs.Float.Ieee.{up, down, size, unlike, fits, round, sum, add, mul, neg, of_int, to_bits, top, is_nan}
use Rattle.std.specs.Float.Ieee.Fits.{down_pos, round-fits}
use Rattle.std.specs.Float.Ieee.Bits.{of_bits-to_bits}
use Rattle.std.specs.Float.Ieee.Exact.{HasValue, round_exact}
use Rattle.std.specs.Float.Ieee.Scale.{finite}
use Rattle.laws.specs.Laws.Tests.{and_left, and_right}
use Rattle.laws.specs.Words.{pos_part, neg_part}
use Rattle.float.specs.Value.{U, mag_units, is_minus, pos_units, neg_units, zero64, one64}

-- ---- what it is for a finite double to fit the format
pow-le_inv : (i j : ℕ) → 2 ^ i ≤ 2 ^ j → i ≤ j
pow-le_inv i j h = le_of_suc-le-suc (lt_of_not-le (λ (g : suc j ≤ i). not-le_of_lt (pow-lt g) h))

-- its digits are below 2 ^ 53, its exponent is at least -1074 (a zero has no digits), and it is below 2 ^ 1024
record Fitting (m : ℕ) (e : ℤ) : Type 0 where
  digits : m < 2 ^ 53
  low : 0 < m → down e ≤ 2 ^ 1074
  high : m * up e < 2 ^ 1024 * down e

fitting : (s : Bool) (m : ℕ) (e : ℤ) → T (fits binary64 (fin s m e)) → Fitting m e
unfolding fits
fitting s zero e t =
    record {
      digits = lit≤ tt;
      low = λ h. absurd (not-le_of_lt h (lit≤ tt));
      high = lt_of_le_of_lt (le_of_eq (zero-mul (up e))) (mul-pos (pow_pos 1024) (down_pos e));
    }
fitting s (suc m) e t =
    let a : Bool = nat_eq (suc m % 2) 1 in
    let b : Bool = nat_lt (suc m) (2 ^ 53) in
    let c : Bool = nat_le (down e) (2 ^ 1074) in
    let d : Bool = nat_lt (suc m * up e) (2 ^ 1024 * down e) in
    let abc : T (a && b && c) = and_left (a && b && c) d t in
    record {
      digits = ltb→lt (suc m) (2 ^ 53) (and_right a b (and_left (a && b) c abc));
      low = λ h. leb→le (down e) (2 ^ 1074) (and_right (a && b) c abc);
      high = ltb→lt (suc m * up e) (2 ^ 1024 * down e) (and_right (a && b && c) d t);
    }

-- ---- a finite double is its units, with its sign
pub has_value : (x : Float) → T (fits binary64 x) → T (finite x) → HasValue x (is_minus x) (mag_units x) U
unfolding mag_units
has_value nan t i = absurd i
has_value (inf s) t i = absurd i
has_value (fin s m (pos k)) t i = (
  refl,
  mul_assoc m (2 ^ k) U ∙ ap (λ (x : ℕ). m * x) (sym (pow-add 2 k 1074)) ∙ sym (mul-one (m * 2 ^ (k + 1074))),
)
has_value (fin s zero (negsuc k)) t i = (
  refl,
  zero-mul U ∙ sym (zero-mul (2 ^ suc k)) ∙ ap (λ (x : ℕ). x * 2 ^ suc k) (sym (zero-mul (2 ^ (1074 - suc k)))),
)
has_value (fin s (suc m) (negsuc k)) t i =
    let low : suc k ≤ 1074 = pow-le_inv (suc k) 1074 ((fitting s (suc m) (negsuc k) t).low (zero-lt-suc m)) in (
      refl,
      ap (λ (x : ℕ). x * U) (mul-one (suc m))
          ∙ ap (λ (x : ℕ). suc m * 2 ^ x) (sym (sub-add_cancel low))
          ∙ ap (λ (x : ℕ). suc m * x) (pow-add 2 (1074 - suc k) (suc k))
          ∙ sym (mul_assoc (suc m) (2 ^ (1074 - suc k)) (2 ^ suc k)),
    )

pub no_nan : (x : Float) → T (finite x) → T (not (is_nan x))
unfolding is_nan
no_nan nan i = absurd i
no_nan (inf s) i = tt
no_nan (fin s m e) i = tt

-- x is the double of g units with the sign s
pub record Exactly (x : Float) (s : Bool) (g : ℕ) : Type 0 where
  pub fit : T (fits binary64 x)
  pub fin : T (finite x)
  pub sign : is_minus x ≡ s
  pub mag : mag_units x ≡ g

pub exactly : (x : Float) (s : Bool) (g : ℕ) → T (fits binary64 x) → HasValue x s g U → Exactly x s g
exactly nan s g t v = absurd v
exactly (inf u) s g t v = absurd v
exactly (fin u m e) s g t v =
    let x = fin u m e in
    record {
      fit = t;
      fin = tt;
      sign = v.0;
      mag = eq_of_mul-eq-mul_right (down e) (down_pos e) (mag_units x) g (sym (has_value x t tt).1 ∙ v.1);
    }

-- a zero has no units, and what has digits has some
pub no_digits : (s : Bool) (e : ℤ) → mag_units (fin s 0 e) ≡ 0
unfolding mag_units
no_digits s (pos k) = zero-mul (2 ^ (k + 1074))
no_digits s (negsuc k) = zero-mul (2 ^ (1074 - suc k))

pub some-digits : (s : Bool) (m : ℕ) (e : ℤ) → 0 < mag_units (fin s (suc m) e)
unfolding mag_units
some-digits s m (pos k) = mul-pos (zero-lt-suc m) (pow_pos (k + 1074))
some-digits s m (negsuc k) = mul-pos (zero-lt-suc m) (pow_pos (1074 - suc k))

pub zero-fits : T (fits binary64 zero64)
unfolding fits
zero-fits = tt

pub zero_mag : mag_units zero64 ≡ 0
unfolding mag_units
zero_mag = refl

-- ---- the two parts of the value
abbrev pub Parts : Bool → Float → Type 0
Parts false x = (pos_units x ≡ mag_units x) × (neg_units x ≡ 0)
Parts true x = (pos_units x ≡ 0) × (neg_units x ≡ mag_units x)

pub parts : (x : Float) (s : Bool) → is_minus x ≡ s → Parts s x
parts x false e = (ap (λ (b : Bool). cond b 0 (mag_units x)) e, ap (λ (b : Bool). cond b (mag_units x) 0) e)
parts x true e = (ap (λ (b : Bool). cond b 0 (mag_units x)) e, ap (λ (b : Bool). cond b (mag_units x) 0) e)

pub mag_parts : (x : Float) → mag_units x ≡ pos_units x + neg_units x
mag_parts x = go (is_minus x) (mag_units x)
  where
    go : (s : Bool) (g : ℕ) → g ≡ cond s 0 g + cond s g 0
    go false g = omega arith
    go true g = omega arith

-- ---- at most 53 digits: m * 2 ^ j units
pub record Digits (x : Float) : Type 0 where
  pub m : ℕ
  pub j : ℕ
  pub mag : mag_units x ≡ m * 2 ^ j
  pub small : m < 2 ^ 53

pub digits : (x : Float) → T (fits binary64 x) → T (finite x) → Digits x
unfolding mag_units
digits nan f i = absurd i
digits (inf s) f i = absurd i
digits (fin s m (pos k)) f i = record { m = m; j = k + 1074; mag = refl; small = (fitting s m (pos k) f).digits }
digits (fin s m (negsuc k)) f i = record { m = m; j = 1074 - suc k; mag = refl; small = (fitting s m (negsuc k) f).digits }

-- a finite double is below 2 ^ 1024
pub mag-lt : (x : Float) → T (fits binary64 x) → T (finite x) → mag_units x < 2 ^ 2098
mag-lt nan f i = absurd i
mag-lt (inf s) f i = absurd i
mag-lt (fin s m e) f i =
    lt_of_mul-lt-mul_right (down e)
    (lt_of_le_of_lt (le_of_eq (sym (has_value (fin s m e) f tt).1))
    (lt_of_lt_of_le (mul-lt-mul_of_pos_right (fitting s m e f).high (pow_pos 1074)) (le_of_eq (mul_right_comm (2 ^ 1024) (down e) U))))

-- ---- the bits of a finite double, from its sign and its units: how many digits are cut off, and the digits that are kept
abbrev pub bits_of : Bool → ℕ → ℕ
bits_of s g = cond s (top binary64) 0 + (size g - 53) * 2 ^ 52 + g / 2 ^ (size g - 53)

pub bits_are : (x : Float) → T (fits binary64 x) → T (finite x) → to_bits binary64 x ≡ bits_of (is_minus x) (mag_units x)
unfolding to_bits
bits_are nan f i = absurd i
bits_are (inf s) f i = absurd i
bits_are (fin s m e) f i =
    let g = mag_units (fin s m e) in
    ap (bits_of s) (ap (λ (z : ℕ). z / down e) (has_value (fin s m e) f tt).1 ∙ mul-div_cancel g (down_pos e))

-- so two of one sign and one number of units are the same
pub same_units : (x y : Float) → T (fits binary64 x) → T (fits binary64 y) → T (finite x) → T (finite y) → is_minus x ≡ is_minus y
    → mag_units x ≡ mag_units y → x ≡ y
same_units x y fx fy ix iy s g =
    sym (of_bits-to_bits binary64 x fx)
    ∙ ap (λ (b : ℕ). from_bits binary64 b) (bits_are x fx ix ∙ ap₂ bits_of s g ∙ sym (bits_are y fy iy))
    ∙ of_bits-to_bits binary64 y fy

-- ---- a fraction of at most 53 digits is held exactly
-- from one fraction to another of the same size
rescale : (x : Float) (s : Bool) (a c b u : ℕ) → 0 < c → a * u ≡ b * c → HasValue x s a c → HasValue x s b u
rescale nan s a c b u C h v = v
rescale (inf t) s a c b u C h v = v
rescale (fin t m e) s a c b u C h v = (
  v.0,
  eq_of_mul-eq-mul_right c C (m * up e * u) (b * down e)
      (mul_right_comm (m * up e) u c
      ∙ ap (λ (z : ℕ). z * u) v.1
      ∙ mul_right_comm a (down e) u
      ∙ ap (λ (z : ℕ). z * down e) h
      ∙ mul_right_comm b c (down e)),
)

pub round-exactly : (s : Bool) (num den m j : ℕ) → 0 < den → m < 2 ^ 53 → m * 2 ^ j < 2 ^ 2098 → num * U ≡ m * 2 ^ j * den
    → Exactly (round binary64 s num den) s (m * 2 ^ j)
round-exactly s num den m j D h l e =
    let x = round binary64 s num den in
    exactly x s (m * 2 ^ j) (round-fits binary64 s num den)
    (rescale x s num den (m * 2 ^ j) U D e (round_exact binary64 s num den m j D h l e))

-- the same for a number of units that a double has
round-held : (s : Bool) (num den : ℕ) (x : Float) (k : ℕ) → T (fits binary64 x) → T (finite x) → 0 < den → mag_units x * 2 ^ k < 2 ^ 2098
    → num * U ≡ mag_units x * 2 ^ k * den → Exactly (round binary64 s num den) s (mag_units x * 2 ^ k)
round-held s num den x k f i D l e =
    let d = digits x f i in
    let is : mag_units x * 2 ^ k ≡ d.m * 2 ^ (d.j + k) =
    ap (λ (z : ℕ). z * 2 ^ k) d.mag ∙ mul_assoc d.m (2 ^ d.j) (2 ^ k) ∙ ap (λ (z : ℕ). d.m * z) (sym (pow-add 2 d.j k)) in
    subst (λ (g : ℕ). Exactly (round binary64 s num den) s g) (sym is)
    (round-exactly s num den d.m (d.j + k) D d.small (subst (λ (g : ℕ). g < 2 ^ 2098) is l) (e ∙ ap (λ (g : ℕ). g * den) is))

-- ---- whole numbers below 2 ^ 53
round_whole : (s : Bool) (n : ℕ) → n < 2 ^ 53 → Exactly (round binary64 s n 1) s (n * U)
round_whole s n h = round-exactly s n 1 n 1074 (zero-lt-suc 0) h room (sym (mul-one (n * U)))
  where
    room : n * 2 ^ 1074 < 2 ^ 2098
    room = lt_of_lt_of_le (mul-lt-mul_of_pos_right h (pow_pos 1074)) (lit≤ tt)

-- x is the whole number z
pub record IsWhole (x : Float) (z : ℤ) : Type 0 where
  pub fit : T (fits binary64 x)
  pub fin : T (finite x)
  pub pos_is : pos_units x ≡ pos_part z * U
  pub neg_is : neg_units x ≡ neg_part z * U

pub of_int_whole : (z : ℤ) → unsigned_abs z < 2 ^ 53 → IsWhole (of_int binary64 z) z
unfolding of_int
of_int_whole (pos n) h =
    let i = round_whole false n h in
    let w = parts (round binary64 false n 1) false i.sign in
    record { fit = i.fit; fin = i.fin; pos_is = w.0 ∙ i.mag; neg_is = w.1 ∙ sym (zero-mul U) }
of_int_whole (negsuc n) h =
    let i = round_whole true (suc n) h in
    let w = parts (round binary64 true (suc n) 1) true i.sign in
    record { fit = i.fit; fin = i.fin; pos_is = w.0 ∙ sym (zero-mul U); neg_is = w.1 ∙ i.mag }

-- ---- -x
pub neg_mag : (x : Float) → mag_units (neg x) ≡ mag_units x
unfolding neg mag_units
neg_mag nan = refl
neg_mag (inf s) = refl
neg_mag (fin s m (pos k)) = refl
neg_mag (fin s m (negsuc k)) = refl

pub neg-exactly : (x : Float) → T (finite x) → (pos_units (neg x) ≡ neg_units x) × (neg_units (neg x) ≡ pos_units x) × T (finite (neg x))
unfolding neg mag_units
neg-exactly nan i = absurd i
neg-exactly (inf s) i = absurd i
neg-exactly (fin false m (pos k)) i = (refl, refl, tt)
neg-exactly (fin false m (negsuc k)) i = (refl, refl, tt)
neg-exactly (fin true m (pos k)) i = (refl, refl, tt)
neg-exactly (fin true m (negsuc k)) i = (refl, refl, tt)

-- ---- equal fractions: a / c and x / u
-- over a common denominator
pub scaled : (a u x d c : ℕ) → a * u ≡ x * d → a * c * u ≡ x * (d * c)
scaled a u x d c e = mul_right_comm a c u ∙ ap (λ (z : ℕ). z * c) e ∙ mul_assoc x d c

-- k times as large, and the sum of two
pub times_scaled : (k a u x c : ℕ) → a * u ≡ x * c → a * k * u ≡ x * k * c
times_scaled k a u x c e = mul_right_comm a k u ∙ ap (λ (z : ℕ). z * k) e ∙ mul_right_comm x c k

pub add_scaled : (a b u x y c : ℕ) → a * u ≡ x * c → b * u ≡ y * c → (a + b) * u ≡ (x + y) * c
add_scaled a b u x y c p q = add-mul a b u ∙ ap₂ (λ (i j : ℕ). i + j) p q ∙ sym (add-mul x y c)

-- ---- x + x is twice x
twice : (s : Bool) (m : ℕ) (e : ℤ) → T (fits binary64 (fin s m e)) → mag_units (fin s m e) * 2 < 2 ^ 2098
    → Exactly (round binary64 s (m * up e * down e + m * up e * down e) (down e * down e)) s (mag_units (fin s m e) * 2)
twice s m e f h =
    let x = fin s m e in
    let n = m * up e * down e in
    let c = down e * down e in
    round-held s (n + n) c x 1 f tt (mul-pos (down_pos e) (down_pos e)) h
    (add-mul n n U ∙ ap (λ (z : ℕ). z + z) (scaled (m * up e) U (mag_units x) (down e) (down e) (has_value x f tt).1)
    ∙ sum-two (mag_units x * c) ∙ mul_right_comm (mag_units x) c 2)
  where
    sum-two : (a : ℕ) → a + a ≡ a * 2
    sum-two a = omega arith

pub double-exactly : (x : Float) → T (fits binary64 x) → T (finite x) → mag_units x * 2 < 2 ^ 2098
    → Exactly (add binary64 x x) (is_minus x) (mag_units x * 2)
unfolding add sum
double-exactly nan f i h = absurd i
double-exactly (inf s) f i h = absurd i
double-exactly (fin false m e) f i h = twice false m e f h
double-exactly (fin true m e) f i h = twice true m e f h

-- ---- the sign of a product
pub unlike_false : (s : Bool) → unlike s false ≡ s
unlike_false false = refl
unlike_false true = refl

pub unlike_same : (s : Bool) → unlike s s ≡ false
unlike_same false = refl
unlike_same true = refl

-- ---- x * 1.0 is x
pub mul_one_is : (x : Float) → T (fits binary64 x) → T (finite x) → mul binary64 x one64 ≡ x
unfolding mul
mul_one_is nan f i = absurd i
mul_one_is (inf s) f i = absurd i
mul_one_is (fin s m e) f i =
    let x = fin s m e in
    let r : Exactly (round binary64 (unlike s false) (m * up e * 1) (down e * 1)) (unlike s false) (mag_units x * 1) =
    round-held (unlike s false) (m * up e * 1) (down e * 1) x 0 f i (mul-pos (down_pos e) (lit≤ tt))
    (lt_of_le_of_lt (le_of_eq (mul-one (mag_units x))) (mag-lt x f i))
    (ap (λ (z : ℕ). z * U) (mul-one (m * up e))
    ∙ (has_value x f tt).1
    ∙ ap₂ (λ (a b : ℕ). a * b) (sym (mul-one (mag_units x))) (sym (mul-one (down e)))) in
    same_units (mul binary64 x one64) x r.fit f r.fin tt (r.sign ∙ unlike_false s) (r.mag ∙ mul-one (mag_units x))
