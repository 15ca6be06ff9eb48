-- THE MARGIN: of two points whose exact squared distances from the target differ by 2 ^ -20 or more, the sums of doubles are in that order.
-- On the way the error of a sum from left to right, of one squared difference, and of a squared distance. Assumes nothing.
use Rattle.std.specs.Prelude.{◌≡◌, ℕ, suc, ◌+◌, ◌*◌, ◌^◌, ◌<◌, ◌≤◌, T, List, [], ◌∷◌, length, ℤ, pos, negsuc, unsigned_abs, Float}
use Rattle.std.proofs.Common.{sym, ap, ap₂, ◌∙◌, subst, zero-le, suc-le-suc, le_refl, le_trans, le_of_eq, le_of_lt, lt_of_lt_of_le, lt_of_le_of_lt, add-zero, zero-add, add_comm, add-le-add, add-lt-add_of_le_of_lt, add-mul, suc-mul, zero-mul, mul-le-mul, mul-le-mul_left, mul-le-mul_right, lt_of_mul-lt-mul_right, arith, lit≤}
use Rattle.std.specs.Float.{binary64}
use Rattle.std.specs.Float.Ieee.{fits, add, sub, of_int, lt}
use Rattle.std.specs.Float.Ieee.Scale.{finite}
use Rattle.laws.specs.Words.{pos_part, neg_part, gap}
use Rattle.float.specs.Value.{U, mag_units, pos_units, neg_units, zero64}
use Rattle.float.specs.Calls.{sum_from, sum_of}
use Rattle.float.specs.Distance.{coord_gap, sq_dist, margin, sq_diff, sq_terms, float_dist}
use Rattle.float.specs.Laws.Exact.{mag_parts, IsWhole, of_int_whole}
use Rattle.float.specs.Laws.Error.{half_ulp}
use Rattle.float.specs.Laws.Near.{Near, near_self, near_zero, near-more, near_parts, near_mag, near_mag-plain, near-lt}
use Rattle.float.specs.Laws.Arithmetic.{near_add, near_sub, near-square}

-- ---- a sum from left to right: each term adds its error and that of one addition
-- each term is near an exact number within f, and the exact numbers sum up to p - n
pub data Terms (c f : ℕ) : List Float → ℕ → ℕ → Type 0 where
  none : Terms c f [] 0 0
  more : {x : Float} {xs : List Float} {q m p n : ℕ} → Near c x q m f → Terms c f xs p n → Terms c f (x ∷ xs) (q + p) (m + n)

pub near-sum : (c f : ℕ) (acc : Float) (xs : List Float) {i j e p n : ℕ} (b : ℕ) → b ≤ 1023 → Terms c f xs p n → Near c acc i j e
    → i + j + e + (p + n) + length xs * (f + half_ulp b * c) < 2 ^ (b + 1074) * c
    → Near c (sum_from acc xs) (i + p) (j + n) (e + length xs * (f + half_ulp b * c))
unfolding sum_from
near-sum c f acc [] {i} {j} {e} b B none a h =
    near-more (e + 0 * (f + half_ulp b * c)) (near_parts (i + 0) (j + 0) a (omega arith))
    (le_of_eq (sym (ap (λ (z : ℕ). e + z) (zero-mul (f + half_ulp b * c)) ∙ add-zero e)))
near-sum c f acc (x ∷ xs) {i} {j} {e} b B (more {q = q} {m = m} {p = p} {n = n} k t) a h =
    let w = f + half_ulp b * c in
    let l = length xs in
    let g = half_ulp b * c in
    let top = 2 ^ (b + 1074) * c in
    let s : suc l * w ≡ l * w + w = suc-mul l w in
    let room : mag_units acc + mag_units x < 2 ^ (b + 1074) =
    lt_of_mul-lt-mul_right c
    (lt_of_le_of_lt (le_of_eq (add-mul (mag_units acc) (mag_units x) c))
    (now (mag_units acc * c) (mag_units x * c) q m p n g (l * w) (suc l * w) top (near_mag a) (near_mag k) s h)) in
    let a' : Near c (add binary64 acc x) (i + q) (j + m) (e + f + g) = near_add b a k B room in
    let r = near-sum c f (add binary64 acc x) xs b B t a' (later q m p n g (l * w) (suc l * w) top s h) in
    near-more (e + suc l * w) (near_parts (i + (q + p)) (j + (m + n)) r (regroup q m p n)) (le_of_eq (errors g (l * w) (suc l * w) s))
  where
    now : (u v q m p n g s s' t : ℕ) → u ≤ gap i j + e → v ≤ gap q m + f → s' ≡ s + (f + g)
        → i + j + e + (q + p + (m + n)) + s' < t → u + v < t
    now u v q m p n g s s' t x y z h = omega arith

    later : (q m p n g s s' t : ℕ) → s' ≡ s + (f + g) → i + j + e + (q + p + (m + n)) + s' < t → i + q + (j + m) + (e + f + g) + (p + n) + s < t
    later q m p n g s s' t z h = omega arith

    errors : (g s s' : ℕ) → s' ≡ s + (f + g) → e + f + g + s ≡ e + s'
    errors g s s' z = omega arith

    regroup : (q m p n : ℕ) → i + q + p + (j + (m + n)) ≡ i + (q + p) + (j + m + n)
    regroup q m p n = omega arith

-- at most k terms, from +0.0
pub near-sum_of : (c f : ℕ) (xs : List Float) {s : ℕ} (b k e : ℕ) → b ≤ 1023 → Terms c f xs s 0 → length xs ≤ k
    → s + k * (f + half_ulp b * c) < 2 ^ (b + 1074) * c → k * (f + half_ulp b * c) ≤ e → Near c (sum_of xs) s 0 e
near-sum_of c f xs {s} b k e B t l room small =
    let w = f + half_ulp b * c in
    let lw : length xs * w ≤ k * w = mul-le-mul_right w l in
    let r = near-sum c f zero64 xs b B t (near_zero c) (lt_of_le_of_lt (from_zero (length xs * w) (k * w) lw) room) in
    near-more e (near_parts s 0 r (omega arith)) (le_trans (le_of_eq (zero-add (length xs * w))) (le_trans lw small))
  where
    from_zero : (a b : ℕ) → a ≤ b → 0 + 0 + 0 + (s + 0) + a ≤ s + b
    from_zero a b h = omega arith

-- ---- one squared difference, of |v| + |t| below 64: within 2 ^ -38
abbrev pub apart : Float → Float → ℕ
apart v t = gap (pos_units v + neg_units t) (neg_units v + pos_units t)

pub apart-le : (v t : Float) → apart v t ≤ mag_units v + mag_units t
apart-le v t = go (pos_units v) (neg_units v) (pos_units t) (neg_units t) (mag_units v) (mag_units t) (mag_parts v) (mag_parts t)
  where
    go : (pv nv pt nt gv gt : ℕ) → gv ≡ pv + nv → gt ≡ pt + nt → gap (pv + nt) (nv + pt) ≤ gv + gt
    go pv nv pt nt gv gt x y = omega arith

pub near-sq_diff : (v t : Float) → T (fits binary64 v) → T (fits binary64 t) → T (finite v) → T (finite t) → mag_units v + mag_units t < 2 ^ 1080
    → Near U (sq_diff v t) (apart v t * apart v t) 0 (2 ^ 2110)
near-sq_diff v t fv ft iv it h =
    let d = sub binary64 v t in
    let n : Near 1 d (pos_units v + neg_units t) (neg_units v + pos_units t) (2 ^ 1026) =
    near_sub 6 (near_self v fv iv) (near_self t ft it) (lit≤ tt) h in
    let small : apart v t ≤ 2 ^ 1080 = le_trans (apart-le v t) (le_of_lt h) in
    let g : mag_units d ≤ 2 ^ 1080 + 2 ^ 1026 =
    le_trans (near_mag-plain n) (add-le-add small (le_refl (2 ^ 1026))) in
    let top : (2 ^ 1080 + 2 ^ 1026) * (2 ^ 1080 + 2 ^ 1026) < 2 ^ 1088 * U = lit≤ tt in
    let r = near-square 14 n (lit≤ tt) (lt_of_le_of_lt (mul-le-mul g g) top) in
    let e : 2 ^ 1026 * (apart v t + apart v t + 2 ^ 1026) ≤ 2 ^ 1026 * (2 ^ 1080 + 2 ^ 1080 + 2 ^ 1026) =
    mul-le-mul_left (2 ^ 1026) (add-le-add (add-le-add small small) (le_refl (2 ^ 1026))) in
    let all : 2 ^ 1026 * (2 ^ 1080 + 2 ^ 1080 + 2 ^ 1026) + half_ulp 14 * U ≤ 2 ^ 2110 = lit≤ tt in
    near-more (2 ^ 2110) r (le_trans (add-le-add e (le_refl (half_ulp 14 * U))) all)

-- ---- points and targets below 32 in size
pub record Tame (y : ℤ) (t : Float) : Type 0 where
  pub fit : T (fits binary64 t)
  pub fin : T (finite t)
  pub small_y : unsigned_abs y < 32
  pub small_t : mag_units t < 2 ^ 1079

unfoldable pub AllTame : List ℤ → List Float → Type 0
AllTame [] ts = Unit {0}
AllTame (y ∷ ys) [] = Unit {0}
AllTame (y ∷ ys) (t ∷ ts) = Tame y t × AllTame ys ts

-- y as f64
module _ (y : ℤ) (t : Float) (a : Tame y t) where
  whole : IsWhole (of_int binary64 y) y
  whole = of_int_whole y (lt_of_lt_of_le a.small_y (lit≤ tt))

  units_y : mag_units (of_int binary64 y) ≤ 31 * U
  units_y =
      le_trans
      (le_of_eq
      (mag_parts (of_int binary64 y) ∙ ap₂ (λ (p n : ℕ). p + n) whole.pos_is whole.neg_is ∙ sym (add-mul (pos_part y) (neg_part y) U)))
      (mul-le-mul_right U (below y a.small_y))
    where
      below : (y : ℤ) → unsigned_abs y < 32 → pos_part y + neg_part y ≤ 31
      below (pos n) h = omega arith
      below (negsuc n) h = omega arith

  units_both : mag_units (of_int binary64 y) + mag_units t < 2 ^ 1080
  units_both = lt_of_lt_of_le (add-lt-add_of_le_of_lt units_y a.small_t) room
    where
      room : 31 * U + 2 ^ 1079 ≤ 2 ^ 1080
      room = lit≤ tt

  gap_is : apart (of_int binary64 y) t ≡ coord_gap y t
  gap_is = ap₂ (λ (p n : ℕ). gap (p + neg_units t) (n + pos_units t)) whole.pos_is whole.neg_is

  near-term : Near U (sq_diff (of_int binary64 y) t) (coord_gap y t * coord_gap y t) 0 (2 ^ 2110)
  near-term =
      subst (λ (g : ℕ). Near U (sq_diff (of_int binary64 y) t) (g * g) 0 (2 ^ 2110)) gap_is
      (near-sq_diff (of_int binary64 y) t whole.fit a.fit whole.fin a.fin units_both)

  gap-sq : coord_gap y t * coord_gap y t ≤ 2 ^ 2160
  gap-sq =
      let h : coord_gap y t ≤ 2 ^ 1080 = le_trans (le_of_eq (sym gap_is)) (le_trans (apart-le (of_int binary64 y) t) (le_of_lt units_both)) in
      let top : 2 ^ 1080 * 2 ^ 1080 ≤ 2 ^ 2160 = lit≤ tt in
      le_trans (mul-le-mul h h) top

terms : (ys : List ℤ) (ts : List Float) → AllTame ys ts → Terms U (2 ^ 2110) (sq_terms ys ts) (sq_dist ys ts) 0
unfolding sq_dist sq_terms AllTame
terms [] ts a = none
terms (y ∷ ys) [] a = none
terms (y ∷ ys) (t ∷ ts) a = more (near-term y t a.0) (terms ys ts a.1)

terms-length : (ys : List ℤ) (ts : List Float) → length (sq_terms ys ts) ≤ length ts
unfolding sq_terms
terms-length [] ts = zero-le
terms-length (y ∷ ys) [] = zero-le
terms-length (y ∷ ys) (t ∷ ts) = suc-le-suc (terms-length ys ts)

dist-le : (ys : List ℤ) (ts : List Float) → AllTame ys ts → sq_dist ys ts ≤ length ts * 2 ^ 2160
unfolding sq_dist AllTame
dist-le [] ts a = zero-le
dist-le (y ∷ ys) [] a = zero-le
dist-le (y ∷ ys) (t ∷ ts) a =
    le_trans (add-le-add (gap-sq y t a.0) (dist-le ys ts a.1))
    (le_of_eq (add_comm (2 ^ 2160) (length ts * 2 ^ 2160) ∙ sym (suc-mul (length ts) (2 ^ 2160))))

-- ---- a squared distance over at most 24 coordinates: within 2 ^ -31
pub near_dist : (ys : List ℤ) (ts : List Float) → length ts ≤ 24 → AllTame ys ts → Near U (float_dist ys ts) (sq_dist ys ts) 0 (2 ^ 2117)
near_dist ys ts n a =
    let w = 2 ^ 2110 + half_ulp 18 * U in
    let d : sq_dist ys ts ≤ 24 * 2 ^ 2160 = le_trans (dist-le ys ts a) (mul-le-mul_right (2 ^ 2160) n) in
    let top : 24 * 2 ^ 2160 + 24 * w < 2 ^ 1092 * U = lit≤ tt in
    near-sum_of U (2 ^ 2110) (sq_terms ys ts) 18 24 (2 ^ 2117) (lit≤ tt) (terms ys ts a) (le_trans (terms-length ys ts) n)
    (lt_of_le_of_lt (add-le-add d (le_refl (24 * w))) top) (lit≤ tt)

-- ---- the theorem
pub margin_decides : (ys zs : List ℤ) (ts : List Float) → length ts ≤ 24 → AllTame ys ts → AllTame zs ts → sq_dist ys ts + margin ≤ sq_dist zs ts
    → T (lt (float_dist ys ts) (float_dist zs ts))
margin_decides ys zs ts n a b h =
    near-lt (near_dist ys ts n a) (near_dist zs ts n b) (lt_of_lt_of_le (apart-lt (sq_dist ys ts) (2 ^ 2117) margin (lit≤ tt)) h)
  where
    apart-lt : (s e m : ℕ) → e + e < m → s + e + e < s + m
    apart-lt s e m h = omega arith
