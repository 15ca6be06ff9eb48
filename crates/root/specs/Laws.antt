-- How the computed root is the nearest double (Nearest.antt): the whole root, the whole number nearest to the root, the doubles beside it, and
-- the digits of the radicand; and bounds on a root from those on its square. Assumes nothing.
pub mod Examples
use Rattle.std.specs.Prelude.{◌≡◌, refl, Bool, true, false, cond, not, ℕ, zero, suc, ◌+◌, ◌-◌, ◌*◌, ◌/◌, ◌^◌, ◌≤◌, ◌<◌, T, leb, ltb, Float}
use Rattle.std.proofs.Common.{sym, ap, ap₂, ◌∙◌, subst, inl, inr, zero-le, le_trans, le_of_eq, le_of_lt, lt_of_lt_of_le, lt_of_le_of_lt, lt_of_not-le, le_of_suc-le-suc, lt_irrefl, zero-lt-suc, eq-or-lt_of_le, add_comm, add-le-add, add-mul, mul-add, mul_assoc, mul_comm, mul_left_comm, one-mul, mul-pos, mul-le-mul, mul-le-mul_left, mul-le-mul_right, mul-lt-mul_of_pos_right, lt_of_mul-lt-mul_right, le-div_iff_mul-le, div-lt_iff_lt-mul, mul-div_cancel, sub-add_cancel, pow-suc, arith, leb→le, ltb→lt, nltb→le, lit≤, pow-add, pow_pos, pow_mono}
use Rattle.std.proofs.Math.Nat.{mul-mul-mul_comm}
use Rattle.std.proofs.Math.Dec.{nleb→lt}
use Rattle.std.specs.Float.{binary64}
use Rattle.std.specs.Float.Ieee.{fits, size, round}
use Rattle.std.specs.Float.Ieee.Digits.{size-lt, size-le, size_reaches}
use Rattle.std.specs.Float.Ieee.Scale.{finite}
use Rattle.laws.specs.Laws.Order.{le-or-lt}
use Rattle.float.specs.Value.{U, mag_units}
use Rattle.float.specs.Laws.Exact.{Exactly, Digits, digits, mag-lt, round-exactly}
use Rattle.root.specs.Root.{NearestRoot, twice_or, whole_root, nearer, root_units, root_of}

-- ---- the whole root: r * r ≤ n < (r + 1) * (r + 1)
pub record Floor (n r : ℕ) : Type 0 where
  pub low : r * r ≤ n
  pub high : n < (r + 1) * (r + 1)

pub sq-next : (r : ℕ) → (r + 1) * (r + 1) ≡ r * r + r + r + 1
sq-next r =
    let a : (r + 1) * (r + 1) ≡ r * (r + 1) + 1 * (r + 1) = add-mul r 1 (r + 1) in
    let b : r * (r + 1) ≡ r * r + r * 1 = mul-add r r 1 in
    omega arith

sq_twice : (r : ℕ) → r * 2 * (r * 2) ≡ r * r * 4
sq_twice r = simp (mul_assoc, mul_comm, mul_left_comm) (omega arith)

one_digit : (r n : ℕ) → Floor (n / 4) r → Floor n (twice_or r n)
one_digit r n f = go (leb ((r * 2 + 1) * (r * 2 + 1)) n) (leb→le ((r * 2 + 1) * (r * 2 + 1)) n) (nleb→lt ((r * 2 + 1) * (r * 2 + 1)) n)
  where
    go : (b : Bool) → (T b → (r * 2 + 1) * (r * 2 + 1) ≤ n) → (T (not b) → n < (r * 2 + 1) * (r * 2 + 1)) → Floor n (cond b (r * 2 + 1) (r * 2))
    go true p q =
        let a = sq-next r in
        let s = sq-next (r * 2) in
        let s' = sq-next (r * 2 + 1) in
        let t = sq_twice r in
        record { low = p tt; high = omega (arith, f.high) }
    go false p q = let t = sq_twice r in record { low = omega (arith, f.low); high = q tt }

whole_root_lem : (d n : ℕ) → n < 4 ^ d → Floor n (whole_root d n)
unfolding whole_root
whole_root_lem zero n h = record { low = zero-le; high = h }
whole_root_lem (suc d) n h =
    one_digit (whole_root d (n / 4)) n (whole_root_lem d (n / 4) ((div-lt_iff_lt-mul (zero-lt-suc 3)).1 (lt_of_lt_of_le h (le_of_eq (pow-suc 4 d)))))

-- it has 53 digits where n has 105 or 106
floor-ge : {n r : ℕ} → Floor n r → 2 ^ 104 ≤ n → 2 ^ 52 ≤ r
floor-ge {n} {r} f h = le_of_suc-le-suc (lt_of_not-le no)
  where
    no : suc r ≤ 2 ^ 52 → ⊥
    no l =
        let l' : r + 1 ≤ 2 ^ 52 = omega arith in
        let a : (r + 1) * (r + 1) ≤ 2 ^ 52 * 2 ^ 52 = mul-le-mul l' l' in
        omega (arith, f.high)

pub floor-lt : {n r : ℕ} → Floor n r → n < 2 ^ 106 → r < 2 ^ 53
floor-lt {n} {r} f h = lt_of_not-le no
  where
    no : 2 ^ 53 ≤ r → ⊥
    no l = let a : 2 ^ 53 * 2 ^ 53 ≤ r * r = mul-le-mul l l in omega (arith, f.low)

-- ---- the whole number r nearest to the root of n: (r - 1 / 2) ^ 2 < n < (r + 1 / 2) ^ 2
record Closest (n r : ℕ) : Type 0 where
  low : r * r < n + r
  high : n ≤ r * r + r

closest : (n r : ℕ) → Floor n r → 0 < r → Closest n (nearer r n)
closest n r f p = go (ltb (r * r + r) n) (ltb→lt (r * r + r) n) (nltb→le (r * r + r) n)
  where
    go : (b : Bool) → (T b → r * r + r < n) → (T (not b) → n ≤ r * r + r) → Closest n (cond b (r + 1) r)
    go true u v = let a = u tt in let s = sq-next r in record { low = omega arith; high = omega (arith, f.high) }
    go false u v = record { low = omega (arith, f.low); high = v tt }

nearer-within : (n r : ℕ) → (r ≤ nearer r n) × (nearer r n ≤ r + 1)
nearer-within n r = go (ltb (r * r + r) n)
  where
    go : (b : Bool) → (r ≤ cond b (r + 1) r) × (cond b (r + 1) r ≤ r + 1)
    go true = (omega arith, omega arith)
    go false = (omega arith, omega arith)

-- (2 r + 1) ^ 2 and (2 r - 1) ^ 2 against 4 n
odd_up : {n r : ℕ} → Closest n r → 4 * n < (r + 1 + r) * (r + 1 + r)
odd_up {n} {r} c =
    let e : r * 2 + 1 ≡ r + 1 + r = omega arith in
    let s = sq-next (r * 2) in
    let t = sq_twice r in
    subst (λ (z : ℕ). 4 * n < z * z) e (omega (arith, c.high))

odd_down : {n : ℕ} (q : ℕ) → Closest n (q + 1) → (q + (q + 1)) * (q + (q + 1)) < 4 * n
odd_down {n} q c =
    let e : q * 2 + 1 ≡ q + (q + 1) = omega arith in
    let s = sq-next (q * 2) in
    let t = sq_twice q in
    let g = sq-next q in
    subst (λ (z : ℕ). z * z < 4 * n) e (omega (arith, c.low))

-- ---- the doubles beside r * 2 ^ k units, for an r of 53 digits, are at least 2 ^ k units away; those of a lower last place are below 2 ^ 52 of it
pub multiple : (m j k : ℕ) → k ≤ j → m * 2 ^ j ≡ m * 2 ^ (j - k) * 2 ^ k
multiple m j k h =
    ap (λ (z : ℕ). m * 2 ^ z) (sym (sub-add_cancel h)) ∙ ap (λ (z : ℕ). m * z) (pow-add 2 (j - k) k) ∙ sym (mul_assoc m (2 ^ (j - k)) (2 ^ k))

lower : (m j k : ℕ) → m < 2 ^ 53 → j < k → m * 2 ^ j < 2 ^ 52 * 2 ^ k
lower m j k h l =
    lt_of_lt_of_le (mul-lt-mul_of_pos_right h (pow_pos j))
    (le_trans (le_of_eq (mul_assoc (2 ^ 52) 2 (2 ^ j) ∙ ap (λ (z : ℕ). 2 ^ 52 * z) (mul_comm 2 (2 ^ j) ∙ sym (pow-suc 2 j))))
    (mul-le-mul_left (2 ^ 52) (pow_mono l)))

next-above : (m j r k : ℕ) → m < 2 ^ 53 → 2 ^ 52 ≤ r → r * 2 ^ k < m * 2 ^ j → (r + 1) * 2 ^ k ≤ m * 2 ^ j
next-above m j r k h f l =
    elim (le-or-lt k j) [
      | inl g ↦
          let e = multiple m j k g in
          let s : r < m * 2 ^ (j - k) = lt_of_mul-lt-mul_right (2 ^ k) (subst (λ (z : ℕ). r * 2 ^ k < z) e l) in
          let s' : r + 1 ≤ m * 2 ^ (j - k) = omega arith in
          le_trans (mul-le-mul_right (2 ^ k) s') (le_of_eq (sym e))
      | inr g ↦ absurd (lt_irrefl (r * 2 ^ k) (lt_of_lt_of_le l (le_trans (le_of_lt (lower m j k h g)) (mul-le-mul_right (2 ^ k) f))))
    ]

next-below : (m j r k : ℕ) → m < 2 ^ 53 → 2 ^ 52 < r → m * 2 ^ j < r * 2 ^ k → m * 2 ^ j ≤ (r - 1) * 2 ^ k
next-below m j r k h f l =
    elim (le-or-lt k j) [
      | inl g ↦
          let e = multiple m j k g in
          let s : m * 2 ^ (j - k) < r = lt_of_mul-lt-mul_right (2 ^ k) (subst (λ (z : ℕ). z < r * 2 ^ k) e l) in
          let s' : m * 2 ^ (j - k) ≤ r - 1 = omega arith in
          le_trans (le_of_eq e) (mul-le-mul_right (2 ^ k) s')
      | inr g ↦ let f' : 2 ^ 52 ≤ r - 1 = omega arith in le_trans (le_of_lt (lower m j k h g)) (mul-le-mul_right (2 ^ k) f')
    ]

-- ---- squares of multiples of p
sq-scale : (a p : ℕ) → a * p * (a * p) ≡ a * a * (p * p)
sq-scale a p = mul-mul-mul_comm a p a p

sq-below : (w a n p : ℕ) → 0 < p → w ≤ a * p → a * a < 4 * n → w * w < 4 * (n * (p * p))
sq-below w a n p P h l =
    lt_of_le_of_lt (le_trans (mul-le-mul h h) (le_of_eq (sq-scale a p)))
    (lt_of_lt_of_le (mul-lt-mul_of_pos_right l (mul-pos P P)) (le_of_eq (mul_assoc 4 n (p * p))))

sq_below' : (w a n p : ℕ) → w < a * p → a * a ≤ 4 * n → w * w < 4 * (n * (p * p))
sq_below' w a n p h l =
    lt_of_lt_of_le (sq-lt w (a * p) h)
    (le_trans (le_of_eq (sq-scale a p)) (le_trans (mul-le-mul_right (p * p) l) (le_of_eq (mul_assoc 4 n (p * p)))))
  where
    sq-lt : (a b : ℕ) → a < b → a * a < b * b
    sq-lt a b h = lt_of_le_of_lt (mul-le-mul_left a (le_of_lt h)) (mul-lt-mul_of_pos_right h (lt_of_le_of_lt zero-le h))

sq-above : (w a n p : ℕ) → 0 < p → a * p ≤ w → 4 * n < a * a → 4 * (n * (p * p)) < w * w
sq-above w a n p P h l =
    lt_of_le_of_lt (le_of_eq (sym (mul_assoc 4 n (p * p))))
    (lt_of_lt_of_le (mul-lt-mul_of_pos_right l (mul-pos P P)) (le_trans (le_of_eq (sym (sq-scale a p))) (mul-le-mul h h)))

-- ---- r, of R * 2 ^ K units with R the whole number nearest to the root of n, where mag_units x * U is n * 4 ^ K
module _ (x r : Float) (n R K : ℕ) (eq : mag_units x * U ≡ n * (2 ^ K * 2 ^ K)) (made : Exactly r false (R * 2 ^ K)) (c : Closest n R)
    (full : 2 ^ 52 ≤ R) (big : 2 ^ 104 ≤ n) where
  above : (y : Float) → T (fits binary64 y) → T (finite y) → mag_units r < mag_units y
      → 4 * (mag_units x * U) < (mag_units y + mag_units r) * (mag_units y + mag_units r)
  above y f i l =
      let d = digits y f i in
      let l' : R * 2 ^ K < d.m * 2 ^ d.j =
      subst (λ (z : ℕ). z < d.m * 2 ^ d.j) made.mag (subst (λ (z : ℕ). mag_units r < z) d.mag l) in
      let g : (R + 1) * 2 ^ K ≤ mag_units y =
      subst (λ (z : ℕ). (R + 1) * 2 ^ K ≤ z) (sym d.mag) (next-above d.m d.j R K d.small full l') in
      let s : (R + 1 + R) * 2 ^ K ≤ mag_units y + mag_units r =
      le_trans (le_of_eq (add-mul (R + 1) R (2 ^ K))) (add-le-add g (le_of_eq (sym made.mag))) in
      subst (λ (z : ℕ). 4 * z < (mag_units y + mag_units r) * (mag_units y + mag_units r)) (sym eq)
      (sq-above (mag_units y + mag_units r) (R + 1 + R) n (2 ^ K) (pow_pos K) s (odd_up c))

  lower-sum : (y : Float) → T (fits binary64 y) → T (finite y) → mag_units y < mag_units r → 2 ^ 52 < R
      → mag_units y + mag_units r ≤ (R - 1 + R) * 2 ^ K
  lower-sum y f i l t =
      let d = digits y f i in
      let l' : d.m * 2 ^ d.j < R * 2 ^ K =
      subst (λ (z : ℕ). d.m * 2 ^ d.j < z) made.mag (subst (λ (z : ℕ). z < mag_units r) d.mag l) in
      let g : mag_units y ≤ (R - 1) * 2 ^ K =
      subst (λ (z : ℕ). z ≤ (R - 1) * 2 ^ K) (sym d.mag) (next-below d.m d.j R K d.small t l') in
      le_trans (add-le-add g (le_of_eq made.mag)) (le_of_eq (sym (add-mul (R - 1) R (2 ^ K))))

  -- at R = 2 ^ 52 the doubles below r lie closer, but there n is the square of R at least
  below : (y : Float) → T (fits binary64 y) → T (finite y) → mag_units y < mag_units r
      → (mag_units y + mag_units r) * (mag_units y + mag_units r) < 4 * (mag_units x * U)
  below y f i l =
      subst (λ (z : ℕ). (mag_units y + mag_units r) * (mag_units y + mag_units r) < 4 * z) (sym eq)
      (elim (eq-or-lt_of_le full) [
        | inl e ↦
            let q : mag_units y + mag_units r < (R + R) * 2 ^ K =
            lt_of_lt_of_le (sum_lt (mag_units y) (mag_units r) l) (le_of_eq (ap (λ (z : ℕ). z + z) made.mag ∙ sym (add-mul R R (2 ^ K)))) in
            sq_below' (mag_units y + mag_units r) (R + R) n (2 ^ K) q (subst (λ (z : ℕ). (z + z) * (z + z) ≤ 4 * n) e (small n big))
        | inr t ↦ sq-below (mag_units y + mag_units r) (R - 1 + R) n (2 ^ K) (pow_pos K) (lower-sum y f i l t) (down1 t)
      ])
    where
      sum_lt : (a b : ℕ) → a < b → a + b < b + b
      sum_lt a b h = omega arith

      small : (n : ℕ) → 2 ^ 104 ≤ n → (2 ^ 52 + 2 ^ 52) * (2 ^ 52 + 2 ^ 52) ≤ 4 * n
      small n h = omega arith

      pred_is : (r : ℕ) → 2 ^ 52 < r → r - 1 + 1 ≡ r
      pred_is r h = omega arith

      down1 : 2 ^ 52 < R → (R - 1 + R) * (R - 1 + R) < 4 * n
      down1 t = subst (λ (z : ℕ). (R - 1 + z) * (R - 1 + z) < 4 * n) (pred_is R t) (odd_down (R - 1) (subst (Closest n) (sym (pred_is R t)) c))

  nearest_is : NearestRoot x r
  nearest_is = record { fit = made.fit; fin = made.fin; sign = made.sign; below = below; above = above }

-- the same from the whole root w, for an n of 105 or 106 digits
module _ (x : Float) (n w K : ℕ) (eq : mag_units x * U ≡ n * (2 ^ K * 2 ^ K)) (f : Floor n w) (lo : 2 ^ 104 ≤ n) (hi : n < 2 ^ 106) where
  pub nearer_full : 2 ^ 52 ≤ nearer w n
  nearer_full = le_trans (floor-ge f lo) (nearer-within n w).0

  pub nearer-top : nearer w n ≤ 2 ^ 53
  nearer-top = let a = floor-lt f hi in le_trans (nearer-within n w).1 (omega arith)

  pub nearest_of : (r : Float) → Exactly r false (nearer w n * 2 ^ K) → NearestRoot x r
  nearest_of r made = nearest_is x r n (nearer w n) K eq made (closest n w f (lt_of_lt_of_le (pow_pos 52) (floor-ge f lo))) nearer_full lo

-- ---- the radicand, cut to 105 or 106 digits, and its root as a double
four-pow : (k : ℕ) → 4 ^ k ≡ 2 ^ k * 2 ^ k
four-pow zero = refl
four-pow (suc k) = pow-suc 4 k ∙ ap (λ (z : ℕ). z * 4) (four-pow k) ∙ sym (sq_twice (2 ^ k)) ∙ ap (λ (z : ℕ). z * z) (sym (pow-suc 2 k))

four_twice : (k : ℕ) → 4 ^ k ≡ 2 ^ (k + k)
four_twice k = four-pow k ∙ sym (pow-add 2 k k)

four_pos : (k : ℕ) → 0 < 4 ^ k
four_pos k = subst (λ (z : ℕ). 0 < z) (sym (four_twice k)) (pow_pos (k + k))

-- R * 2 ^ K units, R of at most 53 digits or 2 ^ 53, are held exactly
held : (R K : ℕ) → R ≤ 2 ^ 53 → K ≤ 1533 → Exactly (round binary64 false (R * 2 ^ K) U) false (R * 2 ^ K)
held R K h k =
    elim (eq-or-lt_of_le h) [
      | inl e ↦
          subst (λ (g : ℕ). Exactly (round binary64 false g U) false g) (sym (carry e))
          (round-exactly false (2 ^ 52 * 2 ^ suc K) U (2 ^ 52) (suc K) (pow_pos 1074) (lit≤ tt)
          (subst (λ (g : ℕ). g < 2 ^ 2098) (carry e) room) refl)
      | inr l ↦ round-exactly false (R * 2 ^ K) U R K (pow_pos 1074) l room refl
    ]
  where
    room : R * 2 ^ K < 2 ^ 2098
    room = lt_of_le_of_lt (mul-le-mul h (pow_mono k)) (lit≤ tt)

    carry : R ≡ 2 ^ 53 → R * 2 ^ K ≡ 2 ^ 52 * 2 ^ suc K
    carry e = ap (λ (z : ℕ). z * 2 ^ K) e ∙ mul_assoc (2 ^ 52) 2 (2 ^ K) ∙ ap (λ (z : ℕ). 2 ^ 52 * z) (mul_comm 2 (2 ^ K) ∙ sym (pow-suc 2 K))

module _ (x : Float) (f : T (fits binary64 x)) (i : T (finite x)) (p : 0 < mag_units x) where
  abbrev N : ℕ
  N = mag_units x * U

  -- so many pairs of digits are dropped, and these are left
  abbrev pub dropped : ℕ
  dropped = (size N - 105) / 2

  abbrev pub leading : ℕ
  leading = N / 4 ^ dropped

  d : Digits x
  d = digits x f i

  N-is : N ≡ d.m * 2 ^ (d.j + 1074)
  N-is = ap (λ (z : ℕ). z * U) d.mag ∙ mul_assoc d.m (2 ^ d.j) U ∙ ap (λ (z : ℕ). d.m * z) (sym (pow-add 2 d.j 1074))

  -- N has from 1075 to 3172 digits
  size_low : 1074 < size N
  size_low =
      lt_of_not-le
      (λ (h : size N ≤ 1074).
      lt_irrefl N (lt_of_lt_of_le (size-lt N) (le_trans (pow_mono h) (le_trans (le_of_eq (sym (one-mul U))) (mul-le-mul_right U p)))))

  size_high : size N ≤ 3172
  size_high = size-le N 3172 (lt_of_lt_of_le (mul-lt-mul_of_pos_right (mag-lt x f i) (pow_pos 1074)) (lit≤ tt))

  size_digits : size N ≤ 53 + (d.j + 1074)
  size_digits =
      size-le N (53 + (d.j + 1074))
      (lt_of_le_of_lt (le_of_eq N-is)
      (lt_of_lt_of_le (mul-lt-mul_of_pos_right d.small (pow_pos (d.j + 1074))) (le_of_eq (sym (pow-add 2 53 (d.j + 1074))))))

  -- all digits of N below 4 ^ dropped are 0
  fits_twice : dropped + dropped ≤ d.j + 1074
  fits_twice = let a = size_digits in let b = size_low in omega arith

  pub cut : leading * (2 ^ dropped * 2 ^ dropped) ≡ N
  cut =
      let c = d.m * 2 ^ (d.j + 1074 - (dropped + dropped)) in
      let is : N ≡ c * 4 ^ dropped =
      N-is ∙ multiple d.m (d.j + 1074) (dropped + dropped) fits_twice ∙ ap (λ (z : ℕ). c * z) (sym (four_twice dropped)) in
      ap₂ (λ (a b : ℕ). a / 4 ^ dropped * b) is (sym (four-pow dropped))
      ∙ ap (λ (z : ℕ). z * 4 ^ dropped) (mul-div_cancel c (four_pos dropped))
      ∙ sym is

  pub low_digits : 2 ^ 104 ≤ leading
  low_digits =
      (le-div_iff_mul-le (four_pos dropped)).1
      (le_trans (le_of_eq (ap (λ (z : ℕ). 2 ^ 104 * z) (four_twice dropped) ∙ sym (pow-add 2 104 (dropped + dropped))))
      (size_reaches N (104 + (dropped + dropped)) (let a = size_low in omega arith)))

  pub high_digits : leading < 2 ^ 106
  high_digits =
      (div-lt_iff_lt-mul (four_pos dropped)).1
      (lt_of_lt_of_le (size-lt N)
      (le_trans (pow_mono spare) (le_of_eq (pow-add 2 106 (dropped + dropped) ∙ ap (λ (z : ℕ). 2 ^ 106 * z) (sym (four_twice dropped))))))
    where
      spare : size N ≤ 106 + (dropped + dropped)
      spare = let a = size_low in omega arith

  pub floor_is : Floor leading (whole_root 53 leading)
  floor_is = whole_root_lem 53 leading (lt_of_lt_of_le high_digits (lit≤ tt))

  top : nearer (whole_root 53 leading) leading ≤ 2 ^ 53
  top = nearer-top x leading (whole_root 53 leading) dropped (sym cut) floor_is low_digits high_digits

  dropped-le : dropped ≤ 1533
  dropped-le = let a = size_high in omega arith

  pub held-root : Exactly (root_of x) false (nearer (whole_root 53 leading) leading * 2 ^ dropped)
  unfolding root_of root_units
  held-root = held (nearer (whole_root 53 leading) leading) dropped top dropped-le

-- ---- the root of what is a double's square or more is that double or more, and so the other way round
module _ (x r y : Float) (n : NearestRoot x r) (f : T (fits binary64 y)) (i : T (finite y)) where
  pub root_from : mag_units y * mag_units y ≤ mag_units x * U → mag_units y ≤ mag_units r
  root_from h =
      let l = mag_units r in
      let m = mag_units y in
      le_of_suc-le-suc (lt_of_not-le (λ (g : suc l ≤ m). clash (m * m) (mag_units x * U) ((m + l) * (m + l)) h (n.above y f i g) (sq-le l m g)))
    where
      sq-le : (l m : ℕ) → l < m → (m + l) * (m + l) ≤ m * m * 4
      sq-le l m g =
          let a : m + l ≤ m * 2 = omega arith in
          le_trans (mul-le-mul a a) (le_of_eq (sq_twice m))

      clash : (a b c : ℕ) → a ≤ b → 4 * b < c → c ≤ a * 4 → ⊥
      clash a b c p q r = omega arith

  pub root-upto : mag_units x * U ≤ mag_units y * mag_units y → mag_units r ≤ mag_units y
  root-upto h =
      let l = mag_units r in
      let m = mag_units y in
      le_of_suc-le-suc (lt_of_not-le (λ (g : suc m ≤ l). clash (m * m) (mag_units x * U) ((m + l) * (m + l)) h (n.below y f i g) (sq-ge l m g)))
    where
      sq-ge : (l m : ℕ) → m < l → m * m * 4 ≤ (m + l) * (m + l)
      sq-ge l m g =
          let a : m * 2 ≤ m + l = omega arith in
          le_trans (le_of_eq (sym (sq_twice m))) (mul-le-mul a a)

      clash : (a b c : ℕ) → b ≤ a → c < 4 * b → a * 4 ≤ c → ⊥
      clash a b c p q r = omega arith

-- ---- of two nearest doubles none is the smaller
pub not_less : (x r q : Float) → NearestRoot x r → NearestRoot x q → mag_units r < mag_units q → ⊥
not_less x r q a b l =
    clash ((mag_units q + mag_units r) * (mag_units q + mag_units r)) ((mag_units r + mag_units q) * (mag_units r + mag_units q)) (4 * (mag_units x * U))
    (ap (λ (z : ℕ). z * z) (add_comm (mag_units q) (mag_units r))) (a.above q b.fit b.fin l) (b.below r a.fit a.fin l)
  where
    clash : (p q f : ℕ) → p ≡ q → f < p → q < f → ⊥
    clash p q f e h k = omega arith
