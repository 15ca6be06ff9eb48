-- The absolute error of each operation. Its operands are near exact numbers, its result is below 2 ^ b in size, and it is near the exact
-- result: the operands' errors go through, and the rounding adds half_ulp b. Assumes nothing.
use Rattle.std.specs.Prelude.{◌≡◌, ℕ, zero, suc, ◌+◌, ◌-◌, ◌*◌, ◌^◌, ◌<◌, ◌≤◌, Bool, true, false, cond, not, T, ◌==◌, nat_lt, refl, Float}
use Rattle.std.proofs.Common.{sym, ap, ap₂, ◌∙◌, subst, true≢false, le_refl, le_trans, le_of_eq, le_of_lt, lt_of_lt_of_le, lt_of_le_of_lt, lt_irrefl, zero-lt-suc, add-mul, mul-add, mul_comm, mul_assoc, mul_left_comm, mul-one, mul-pos, mul-le-mul, mul-le-mul_left, mul-le-mul_right, mul-lt-mul_of_pos_right, le_of_mul-le-mul_right, le-add_right, le-add_left, arith, ltb→lt, nltb→le, lit≤, pow_pos}
use Rattle.std.proofs.Math.Nat.{mul-sub, mul-mul-mul_comm}
use Rattle.std.proofs.Math.Dec.{eqb-suc-zero}
use Rattle.std.specs.Float.{nan, inf, fin}
use Rattle.std.specs.Float.Ieee.{binary64, up, down, unlike, fits, round, sum, add, sub, mul, div}
use Rattle.std.specs.Float.Ieee.Fits.{down_pos, up_pos}
use Rattle.std.specs.Float.Ieee.Order.{round_mono}
use Rattle.std.specs.Float.Ieee.Scale.{finite, round_under}
use Rattle.laws.specs.Words.{gap}
use Rattle.float.specs.Value.{U, mag_units, is_minus, pos_units, neg_units, four64}
use Rattle.float.specs.Laws.Exact.{
  has_value,
  no_digits,
  neg_mag,
  parts,
  unlike_false,
  unlike_same,
  digits,
  mag-lt,
  round-exactly,
}
use Rattle.float.specs.Laws.Compare.{num_x, num_y, common_pos, le_is, both}
use Rattle.float.specs.Laws.Error.{half_ulp, Rounded, round_grid, round_units, rounded_cancel}
use Rattle.float.specs.Laws.Near.{Near, near-more, near_parts, near-scale, near-neg, near_mag-plain, mag_near-plain, rounded-near, near-signed}

-- ---- x + y
sub-mul : (i j l : ℕ) → (i - j) * l ≡ i * l - j * l
sub-mul i j l = mul_comm (i - j) l ∙ mul-sub l i j ∙ ap₂ (λ (m n : ℕ). m - n) (mul_comm l i) (mul_comm l j)

-- ±a / c and ±b / c, which are x and y units, added
module _ (a b c x y k : ℕ) (C : 0 < c) (p : a * U ≡ x * c) (q : b * U ≡ y * c) (K : k ≤ 1023) (h : x + y < 2 ^ (k + 1074)) where
  less : (a - b) * U ≡ (x - y) * c
  less = sub-mul a b U ∙ ap₂ (λ (i j : ℕ). i - j) p q ∙ sym (sub-mul x y c)

  more : (b - a) * U ≡ (y - x) * c
  more = sub-mul b a U ∙ ap₂ (λ (i j : ℕ). i - j) q p ∙ sym (sub-mul y x c)

  -- the numerator n, which is v units, rounded with the sign r
  one : (r : Bool) (n v : ℕ) → n * U ≡ v * c → v ≤ x + y → Near 1 (round binary64 r n c) (cond r 0 v) (cond r v 0) (half_ulp k)
  one r n v e l =
      let small : v < 2 ^ (k + 1074) * 1 = lt_of_lt_of_le (lt_of_le_of_lt l h) (le_of_eq (sym (mul-one (2 ^ (k + 1074))))) in
      near-more (half_ulp k) (rounded-near (round_units r n c v 1 k C (mul-one (n * U) ∙ e) small K)) (le_of_eq (mul-one (half_ulp k)))

  y_less : b ≤ a → y ≤ x
  y_less l = le_of_mul-le-mul_right (le_trans (le_of_eq (sym q)) (le_trans (mul-le-mul_right U l) (le_of_eq p))) C

  x_less : a ≤ b → x ≤ y
  x_less l = le_of_mul-le-mul_right (le_trans (le_of_eq (sym p)) (le_trans (mul-le-mul_right U l) (le_of_eq q))) C

  x_over : x - y ≤ x + y
  x_over = omega arith

  y_over : y - x ≤ x + y
  y_over = omega arith

  sum_near : (s t : Bool) → Near 1 (sum binary64 s a t b c) (cond s 0 x + cond t 0 y) (cond s x 0 + cond t y 0) (half_ulp k)
  unfolding sum
  sum_near false false = near_parts (x + y) (0 + 0) (one false (a + b) (x + y) (both a b c x y C p q) (le_refl (x + y))) (omega arith)
  sum_near true true = near_parts (0 + 0) (x + y) (one true (a + b) (x + y) (both a b c x y C p q) (le_refl (x + y))) (omega arith)
  sum_near false true = go (nat_lt a b) (ltb→lt a b) (nltb→le a b)
    where
      go : (l : Bool) → (T l → a < b) → (T (not l) → b ≤ a)
          → Near 1 (cond l (round binary64 true (b - a) c) (round binary64 false (a - b) c)) (x + 0) (0 + y) (half_ulp k)
      go true f g = let o = x_less (le_of_lt (f tt)) in near_parts (x + 0) (0 + y) (one true (b - a) (y - x) more y_over) (omega arith)
      go false f g = let o = y_less (g tt) in near_parts (x + 0) (0 + y) (one false (a - b) (x - y) less x_over) (omega arith)
  sum_near true false = go (nat_lt a b) (nat_lt b a) (ltb→lt a b) (nltb→le a b) (nltb→le b a)
    where
      go : (l r : Bool) → (T l → a < b) → (T (not l) → b ≤ a) → (T (not r) → a ≤ b)
          → Near 1 (cond l (round binary64 false (b - a) c) (round binary64 r (a - b) c)) (0 + y) (x + 0) (half_ulp k)
      go true r f g i = let o = x_less (le_of_lt (f tt)) in near_parts (0 + y) (x + 0) (one false (b - a) (y - x) more y_over) (omega arith)
      go false true f g i = let o = y_less (g tt) in near_parts (0 + y) (x + 0) (one true (a - b) (x - y) less x_over) (omega arith)
      go false false f g i =
          let o = y_less (g tt) in
          let z = x_less (i tt) in
          near_parts (0 + y) (x + 0) (one false (a - b) (x - y) less x_over) (omega arith)

add-near : (x y : Float) (b : ℕ) → T (fits binary64 x) → T (fits binary64 y) → T (finite x) → T (finite y) → b ≤ 1023
    → mag_units x + mag_units y < 2 ^ (b + 1074) → Near 1 (add binary64 x y) (pos_units x + pos_units y) (neg_units x + neg_units y) (half_ulp b)
unfolding add
add-near nan y b fx fy ix iy B h = absurd ix
add-near (inf s) y b fx fy ix iy B h = absurd ix
add-near (fin s m e) nan b fx fy ix iy B h = absurd iy
add-near (fin s m e) (inf t) b fx fy ix iy B h = absurd iy
add-near (fin s m e) (fin t n d) b fx fy ix iy B h =
    let x = fin s m e in
    let y = fin t n d in
    sum_near (m * up e * down d) (n * up d * down e) (down e * down d) (mag_units x) (mag_units y) b (common_pos e d)
    (num_x s m e t n d fx fy) (num_y s m e t n d fx fy) B h s t

pub near_add : {c : ℕ} {x y : Float} {p n e q m f : ℕ} (b : ℕ) → Near c x p n e → Near c y q m f → b ≤ 1023
    → mag_units x + mag_units y < 2 ^ (b + 1074) → Near c (add binary64 x y) (p + q) (n + m) (e + f + half_ulp b * c)
near_add {c} {x} {y} {p} {n} {e} {q} {m} {f} b u w B h =
    let z = add binary64 x y in
    let r : Near c z ((pos_units x + pos_units y) * c) ((neg_units x + neg_units y) * c) (half_ulp b * c) =
    near-scale c (add-near x y b u.fit w.fit u.fin w.fin B h) in
    let i : (pos_units x + pos_units y) * c ≡ pos_units x * c + pos_units y * c = add-mul (pos_units x) (pos_units y) c in
    let j : (neg_units x + neg_units y) * c ≡ neg_units x * c + neg_units y * c = add-mul (neg_units x) (neg_units y) c in
    record { fit = r.fit; fin = r.fin; lo = omega arith; hi = omega arith }

-- ---- x - y
pub near_sub : {c : ℕ} {x y : Float} {p n e q m f : ℕ} (b : ℕ) → Near c x p n e → Near c y q m f → b ≤ 1023
    → mag_units x + mag_units y < 2 ^ (b + 1074) → Near c (sub binary64 x y) (p + m) (n + q) (e + f + half_ulp b * c)
unfolding sub
near_sub {c} {x} {y} b u w B h = near_add b u (near-neg w) B (subst (λ (g : ℕ). mag_units x + g < 2 ^ (b + 1074)) (sym (neg_mag y)) h)

-- ---- x * y, by sign and magnitude
product : (m n u x y d c : ℕ) → m * u ≡ x * d → n * u ≡ y * c → m * n * u * u ≡ x * y * (d * c)
product m n u x y d c p q =
    mul_assoc (m * n) u u ∙ mul-mul-mul_comm m n u u ∙ ap₂ (λ (i j : ℕ). i * j) p q ∙ mul-mul-mul_comm x d y c

-- z is a fraction num / den that is v / w units, rounded with the sign s: the absolute and the relative law start from it
pub record Fraction (z : Float) (s : Bool) (v w : ℕ) : Type 0 where
  pub num : ℕ
  pub den : ℕ
  pub den_pos : 0 < den
  pub is : z ≡ round binary64 s num den
  pub same : num * U * w ≡ v * den

pub mul-fraction : (x y : Float) → T (fits binary64 x) → T (fits binary64 y) → T (finite x) → T (finite y)
    → Fraction (mul binary64 x y) (unlike (is_minus x) (is_minus y)) (mag_units x * mag_units y) U
unfolding mul
mul-fraction nan y fx fy ix iy = absurd ix
mul-fraction (inf s) y fx fy ix iy = absurd ix
mul-fraction (fin s m e) nan fx fy ix iy = absurd iy
mul-fraction (fin s m e) (inf t) fx fy ix iy = absurd iy
mul-fraction (fin s m e) (fin t n d) fx fy ix iy =
    let x = fin s m e in
    let y = fin t n d in
    record {
      num = m * up e * (n * up d);
      den = down e * down d;
      den_pos = mul-pos (down_pos e) (down_pos d);
      is = refl;
      same = product (m * up e) (n * up d) U (mag_units x) (mag_units y) (down e) (down d) (has_value x fx tt).1 (has_value y fy tt).1;
    }

pub fraction-rounded : {z : Float} {s : Bool} {v w : ℕ} (b : ℕ) → Fraction z s v w → b ≤ 1023 → v < 2 ^ (b + 1074) * w → Rounded z s v w b
fraction-rounded {z} {s} {v} {w} b f B h =
    subst (λ (x : Float). Rounded x s v w b) (sym f.is) (round_units s f.num f.den v w b f.den_pos f.same h B)

pub mul-rounded : (x y : Float) (b : ℕ) → T (fits binary64 x) → T (fits binary64 y) → T (finite x) → T (finite y) → b ≤ 1023
    → mag_units x * mag_units y < 2 ^ (b + 1074) * U → Rounded (mul binary64 x y) (unlike (is_minus x) (is_minus y)) (mag_units x * mag_units y) U b
mul-rounded x y b fx fy ix iy B h = fraction-rounded b (mul-fraction x y fx fy ix iy) B h

-- ---- x / y, by sign and magnitude
quotient : (m n u x y d c : ℕ) → m * u ≡ x * d → n * u ≡ y * c → m * c * u * y ≡ x * u * (n * d)
quotient m n u x y d c p q =
    let l : m * c * u * y ≡ m * u * (y * c) = simp (mul_assoc, mul_comm) in
    let r : x * d * (n * u) ≡ x * u * (n * d) = simp (mul_assoc, mul_comm, mul_left_comm) in
    l ∙ ap₂ (λ (i j : ℕ). i * j) p (sym q) ∙ r

pub div-fraction : (x y : Float) → T (fits binary64 x) → T (fits binary64 y) → T (finite x) → T (finite y) → 0 < mag_units y
    → Fraction (div binary64 x y) (unlike (is_minus x) (is_minus y)) (mag_units x * U) (mag_units y)
unfolding div
div-fraction nan y fx fy ix iy p = absurd ix
div-fraction (inf s) y fx fy ix iy p = absurd ix
div-fraction (fin s m e) nan fx fy ix iy p = absurd iy
div-fraction (fin s m e) (inf t) fx fy ix iy p = absurd iy
div-fraction (fin s m e) (fin t zero d) fx fy ix iy p = absurd (lt_irrefl 0 (subst (λ (z : ℕ). 0 < z) (no_digits t d) p))
div-fraction (fin s m e) (fin t (suc n) d) fx fy ix iy p =
    let x = fin s m e in
    let y = fin t (suc n) d in
    record {
      num = m * up e * down d;
      den = suc n * up d * down e;
      den_pos = mul-pos (mul-pos (zero-lt-suc n) (up_pos d)) (down_pos e);
      is =
          ap (λ (q : Bool). cond q (cond (m == 0) nan (inf (unlike s t))) (round binary64 (unlike s t) (m * up e * down d) (suc n * up d * down e)))
          (eqb-suc-zero n);
      same = quotient (m * up e) (suc n * up d) U (mag_units x) (mag_units y) (down e) (down d) (has_value x fx tt).1 (has_value y fy tt).1;
    }

-- ---- x * x of a value near p - n: near |p - n| squared. (d + e) ^ 2 and d ^ 2 differ by e * (d + d + e)
sq_hi : (g d e : ℕ) → g ≤ d + e → g * g ≤ d * d + e * (d + d + e)
sq_hi g d e h =
    let a : g * g ≤ (d + e) * (d + e) = mul-le-mul h h in
    let b : (d + e) * (d + e) ≡ d * (d + e) + e * (d + e) = add-mul d e (d + e) in
    let c : d * (d + e) ≡ d * d + d * e = mul-add d d e in
    let f : e * (d + e) ≡ e * d + e * e = mul-add e d e in
    let i : e * (d + d + e) ≡ e * (d + d) + e * e = mul-add e (d + d) e in
    let j : e * (d + d) ≡ e * d + e * d = mul-add e d d in
    let k : d * e ≡ e * d = mul_comm d e in
    omega arith

sq_lo : (g d e : ℕ) → g ≤ d + e → d ≤ g + e → d * d ≤ g * g + e * (d + d + e)
sq_lo g d e u h =
    let a : d * d ≤ d * (g + e) = mul-le-mul_left d h in
    let b : d * (g + e) ≡ d * g + d * e = mul-add d g e in
    let c : d * g ≤ (g + e) * g = mul-le-mul_right g h in
    let f : (g + e) * g ≡ g * g + e * g = add-mul g e g in
    let i : e * g ≤ e * (d + e) = mul-le-mul_left e u in
    let k : e * (d + e) ≡ e * d + e * e = mul-add e d e in
    let l : e * (d + d + e) ≡ e * (d + d) + e * e = mul-add e (d + d) e in
    let j : e * (d + d) ≡ e * d + e * d = mul-add e d d in
    let m : d * e ≡ e * d = mul_comm d e in
    omega arith

pub near-square : {x : Float} {p n e : ℕ} (b : ℕ) → Near 1 x p n e → b ≤ 1023 → mag_units x * mag_units x < 2 ^ (b + 1074) * U
    → Near U (mul binary64 x x) (gap p n * gap p n) 0 (e * (gap p n + gap p n + e) + half_ulp b * U)
near-square {x} {p} {n} {e} b a B h =
    let z = mul binary64 x x in
    let d = gap p n in
    let g = mag_units x in
    let r : Rounded z (unlike (is_minus x) (is_minus x)) (g * g) U b = mul-rounded x x b a.fit a.fit a.fin a.fin B h in
    let g_hi : g ≤ d + e = near_mag-plain a in
    let g_lo : d ≤ g + e = mag_near-plain a in
    near-signed false r.fit r.fin (r.sign ∙ unlike_same (is_minus x))
    (over (mag_units z * U) (g * g) (d * d) (half_ulp b * U) (e * (d + d + e)) r.hi (sq_hi g d e g_hi))
    (under (d * d) (g * g) (mag_units z * U) (e * (d + d + e)) (half_ulp b * U) (sq_lo g d e g_hi g_lo) r.lo)
  where
    over : (u v w s t : ℕ) → u ≤ v + s → v ≤ w + t → u ≤ w + (t + s)
    over u v w s t a b = omega arith

    under : (u v w s t : ℕ) → u ≤ v + s → v ≤ w + t → u ≤ w + (s + t)
    under u v w s t a b = omega arith

-- ---- x / 4.0
four_units : mag_units four64 ≡ 4 * U
unfolding mag_units
four_units = refl

four-fits : T (fits binary64 four64)
unfolding fits
four-fits = tt

pub near_quarter : {x : Float} {p n e : ℕ} (b : ℕ) → Near 1 x p n e → b ≤ 1023 → mag_units x < 2 ^ (b + 1074) * 4
    → Near 4 (div binary64 x four64) p n (e + half_ulp b * 4)
near_quarter {x} {p} {n} {e} b u B h =
    let z = div binary64 x four64 in
    let f : Fraction z (unlike (is_minus x) false) (mag_units x * U) (4 * U) =
    subst (Fraction z (unlike (is_minus x) false) (mag_units x * U)) four_units
    (div-fraction x four64 u.fit four-fits u.fin tt (subst (λ (k : ℕ). 0 < k) (sym four_units) (lit≤ tt))) in
    let r : Rounded z (unlike (is_minus x) false) (mag_units x) 4 b =
    rounded_cancel (mag_units x) 4 U (lit≤ tt) (pow_pos 1074)
    (fraction-rounded b f B (lt_of_lt_of_le (mul-lt-mul_of_pos_right h (pow_pos 1074)) (le_of_eq (mul_assoc (2 ^ (b + 1074)) 4 U)))) in
    let s : Near 4 z (pos_units x) (neg_units x) (half_ulp b * 4) =
    subst (λ (t : Bool). Near 4 z (cond t 0 (mag_units x)) (cond t (mag_units x) 0) (half_ulp b * 4)) (unlike_false (is_minus x)) (rounded-near r) in
    record { fit = s.fit; fin = s.fin; lo = omega (arith, u, s); hi = omega (arith, u, s) }

-- ---- x + y of two that are not negative is not negative, and no smaller than either
-- a fraction that is no smaller than a double x is rounded to one that is no smaller
round_grows : (x : Float) (low num den : ℕ) → T (fits binary64 x) → T (finite x) → is_minus x ≡ false → 0 < den
    → low * U ≡ mag_units x * den → low ≤ num → T (finite (round binary64 false num den))
    → (is_minus (round binary64 false num den) ≡ false) × (mag_units x ≤ mag_units (round binary64 false num den))
round_grows x low num den f i s D e h j =
    let r = round binary64 false num den in
    let q = round binary64 false low den in
    let d = digits x f i in
    let is : mag_units x ≡ d.m * 2 ^ d.j = d.mag in
    let a =
    round-exactly false low den d.m d.j D d.small (subst (λ (g : ℕ). g < 2 ^ 2098) is (mag-lt x f i)) (e ∙ ap (λ (g : ℕ). g * den) is) in
    let b = round_grid false num den (round_under binary64 num den j) in
    let l = le_is q r a.fit b.fit a.fin j (round_mono binary64 low den num den D D (mul-le-mul_right den h)) in
    let u = parts q false a.sign in
    let w = parts r false b.sign in (
      b.sign,
      go (pos_units q) (neg_units q) (pos_units r) (neg_units r) (mag_units q) (mag_units r) (mag_units x) u.0 u.1 w.0 w.1 (a.mag ∙ sym is) l,
    )
  where
    go : (pq nq pr nr mq mr m : ℕ) → pq ≡ mq → nq ≡ 0 → pr ≡ mr → nr ≡ 0 → mq ≡ m → pq + nr ≤ pr + nq → m ≤ mr
    go pq nq pr nr mq mr m a b c d e h = omega arith

pub record Grown (x y z : Float) : Type 0 where
  pub sign : is_minus z ≡ false
  pub left : mag_units x ≤ mag_units z
  pub right : mag_units y ≤ mag_units z

pub add_grows : (x y : Float) → T (fits binary64 x) → T (fits binary64 y) → T (finite x) → T (finite y) → is_minus x ≡ false → is_minus y ≡ false
    → T (finite (add binary64 x y)) → Grown x y (add binary64 x y)
unfolding add sum
add_grows nan y fx fy ix iy sx sy h = absurd ix
add_grows (inf s) y fx fy ix iy sx sy h = absurd ix
add_grows (fin s m e) nan fx fy ix iy sx sy h = absurd iy
add_grows (fin s m e) (inf t) fx fy ix iy sx sy h = absurd iy
add_grows (fin true m e) (fin t n d) fx fy ix iy sx sy h = absurd (true≢false sx)
add_grows (fin false m e) (fin true n d) fx fy ix iy sx sy h = absurd (true≢false sy)
add_grows (fin false m e) (fin false n d) fx fy ix iy sx sy h =
    let x = fin false m e in
    let y = fin false n d in
    let a = m * up e * down d in
    let b = n * up d * down e in
    let c = down e * down d in
    let p = round_grows x a (a + b) c fx tt refl (common_pos e d) (num_x false m e false n d fx fy) (le-add_right a b) h in
    let q = round_grows y b (a + b) c fy tt refl (common_pos e d) (num_y false m e false n d fx fy) (le-add_left b a) h in
    record { sign = p.0; left = p.1; right = q.1 }
