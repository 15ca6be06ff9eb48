-- Scores do not overflow: of accepted samples, and of any point of 32-bit whole numbers that is not the origin, the score is finite. The origin
-- scores minus infinity. Assumes nothing.
use Rattle.std.specs.Prelude.{◌≡◌, refl, true, false, T, ℤ, pos, negsuc, nat_abs, get_or, Float}
use Rattle.std.proofs.Common.{sym, ap, ap₂, ◌∙◌, le_of_eq, le_of_lt, lt_of_lt_of_le, lt_of_le_of_lt, not-suc-le-zero, le_of_suc-le-suc, zero-lt-suc, zero-add, add-le-add, add-mul, one-mul, mul-le-mul, mul-le-mul_left, mul-le-mul_right, le_of_mul-le-mul_right, le-add_right, pow_pos}
use mathlib.Core.List.{List, [], ◌∷◌}
use Prim.Native.Nat.{ℕ, zero, suc, ◌+◌, ◌*◌, ◌^◌, ◌≤◌, ◌<◌, zero-le, suc-le-suc}
use Rattle.std.proofs.Math.Nat.{le_refl, le_trans, suc-mul}
use native.Mathlib.Omega.{arith}
use Rattle.std.proofs.Math.Dec.{lit≤}
use Rattle.std.proofs.Math.ListN.{length}
use Rattle.std.specs.Float.{inf}
use Rattle.std.specs.Float.Ieee.{fin, binary64, fits, add, mul, lt, sum, round, size, of_int}
use Rattle.std.specs.Float.Ieee.Scale.{finite}
use Rattle.laws.specs.Laws.Tests.{is_true}
use Rattle.laws.specs.Words.{gap, pos_part, neg_part}
use Rattle.float.specs.Value.{U, mag_units, is_minus, pos_units, neg_units, zero64}
use Rattle.float.specs.Calls.{sum_from}
use Rattle.float.specs.Laws.Exact.{zero-fits, zero_mag, mag_parts, of_int_whole, unlike_same}
use Rattle.float.specs.Laws.Error.{half_ulp}
use Rattle.float.specs.Laws.Near.{near_self, near_mag-plain}
use Rattle.float.specs.Laws.Arithmetic.{near_add, mul-rounded, div-fraction, fraction-rounded, add_grows}
use Rattle.float.specs.Laws.Relative.{mul-close}
use Rattle.root.specs.Root.{rooted}
use Rattle.root.specs.Nearest.{rooted-nearest}
use Rattle.root.specs.Laws.{root_from}
use Rattle.score.specs.Samples.{AllFit, limit64, sample_number}
use Rattle.score.specs.Score.{products, dot_of, doubles_of, score_of, t_of}
use Rattle.score.specs.Laws.Sample.{UpTo, Each, none, more, Sample, samples_are}
use Rattle.score.specs.Laws.Largest.{Plain, above_zero}
use Rattle.score.specs.Laws.Scale.{at_least, cancel}

-- ---- a whole number of 32 bits as a double
mag_whole : (y : ℤ) → nat_abs y ≤ 2 ^ 31 → mag_units (of_int binary64 y) ≡ nat_abs y * U
mag_whole y h =
    let w = of_int_whole y (lt_of_le_of_lt h (lit≤ tt)) in
    mag_parts (of_int binary64 y)
    ∙ ap₂ (λ (a b : ℕ). a + b) w.pos_is w.neg_is
    ∙ sym (add-mul (pos_part y) (neg_part y) U)
    ∙ ap (λ (z : ℕ). z * U) (size_is y)
  where
    size_is : (y : ℤ) → pos_part y + neg_part y ≡ nat_abs y
    size_is (pos n) = omega arith
    size_is (negsuc n) = omega arith

double_is : (y : ℤ) → nat_abs y ≤ 2 ^ 31 → UpTo (2 ^ 31 * U) (of_int binary64 y)
double_is y h =
    let w = of_int_whole y (lt_of_le_of_lt h (lit≤ tt)) in
    record { fit = w.fit; fin = w.fin; le = le_trans (le_of_eq (mag_whole y h)) (mul-le-mul_right U h) }

abbrev pub All32 : List ℤ → Type 0
All32 ys = (k : ℕ) → nat_abs (get_or ys k (pos 0)) ≤ 2 ^ 31

pub doubles_are : (ys : List ℤ) → All32 ys → Each (UpTo (2 ^ 31 * U)) (doubles_of ys)
unfolding doubles_of
doubles_are [] h = none
doubles_are (y ∷ ys) h = more (double_is y (h 0)) (doubles_are ys (λ (k : ℕ). h (suc k)))

pub doubles-length : (ys : List ℤ) → length (doubles_of ys) ≡ length ys
unfolding doubles_of
doubles-length [] = refl
doubles-length (y ∷ ys) = ap suc (doubles-length ys)

-- ---- a sum of terms of at most t units each, from a number of at most c units
module _ (t b : ℕ) (B : b ≤ 1023) (H : half_ulp b ≤ t) where
  add_small : (acc x : Float) (c : ℕ) → UpTo c acc → UpTo t x → c + t < 2 ^ (b + 1074) → UpTo (c + 2 * t) (add binary64 acc x)
  add_small acc x c u w h =
      let n = near_add b (near_self acc u.fit u.fin) (near_self x w.fit w.fin) B (lt_of_le_of_lt (add-le-add u.le w.le) h) in
      record {
        fit = n.fit;
        fin = n.fin;
        le = le_trans (near_mag-plain n)
            (go (pos_units acc) (neg_units acc) (pos_units x) (neg_units x) (mag_units acc) (mag_units x) (half_ulp b) (mag_parts acc) (mag_parts x)
            u.le w.le H);
      }
    where
      go : (pa na px nx ma mx e : ℕ) → ma ≡ pa + na → mx ≡ px + nx → ma ≤ c → mx ≤ t → e ≤ t → gap (pa + px) (na + nx) + (0 + 0 + e * 1) ≤ c + 2 * t
      go pa na px nx ma mx e i j k l m = omega arith

  -- of z, which is 2 t more than l, there is room for the next term, and then for the rest
  now : (c l z p : ℕ) → z ≡ l + 2 * t → c + z < p → c + t < p
  now c l z p i h = omega arith

  later : (c l z p : ℕ) → z ≡ l + 2 * t → c + z < p → c + 2 * t + l < p
  later c l z p i h = omega arith

  sum-small : (acc : Float) (ts : List Float) (c : ℕ) → UpTo c acc → Each (UpTo t) ts → c + length ts * (2 * t) < 2 ^ (b + 1074)
      → UpTo (c + length ts * (2 * t)) (sum_from acc ts)
  unfolding sum_from
  sum-small acc [] c u none h = record { fit = u.fit; fin = u.fin; le = le_trans u.le (le-add_right c (0 * (2 * t))) }
  sum-small acc (x ∷ xs) c u (more w e) h =
      let l = length xs * (2 * t) in
      let s : suc (length xs) * (2 * t) ≡ l + 2 * t = suc-mul (length xs) (2 * t) in
      let r = sum-small (add binary64 acc x) xs (c + 2 * t) (add_small acc x c u w (now c l (suc (length xs) * (2 * t)) (2 ^ (b + 1074)) s h)) e
      (later c l (suc (length xs) * (2 * t)) (2 ^ (b + 1074)) s h) in
      record { fit = r.fit; fin = r.fin; le = le_trans r.le (le_of_eq (same l (suc (length xs) * (2 * t)) s)) }
    where
      same : (l z : ℕ) → z ≡ l + 2 * t → c + 2 * t + l ≡ c + z
      same l z i = omega arith

  -- where none is negative, the sum is no smaller than any of them
  sum_grows : (acc : Float) (ts : List Float) (c : ℕ) → UpTo c acc → is_minus acc ≡ false → Each (UpTo t) ts → Each Plain ts
      → c + length ts * (2 * t) < 2 ^ (b + 1074)
      → (is_minus (sum_from acc ts) ≡ false) × (mag_units acc ≤ mag_units (sum_from acc ts))
      × Each (λ (x : Float). mag_units x ≤ mag_units (sum_from acc ts)) ts
  unfolding sum_from
  sum_grows acc [] c u s none none h = (s, le_refl (mag_units acc), none)
  sum_grows acc (x ∷ xs) c u s (more w e) (more p q) h =
      let l = length xs * (2 * t) in
      let z : suc (length xs) * (2 * t) ≡ l + 2 * t = suc-mul (length xs) (2 * t) in
      let a = add_small acc x c u w (now c l (suc (length xs) * (2 * t)) (2 ^ (b + 1074)) z h) in
      let g = add_grows acc x u.fit w.fit u.fin w.fin s p.sign a.fin in
      let r = sum_grows (add binary64 acc x) xs (c + 2 * t) a g.sign e q (later c l (suc (length xs) * (2 * t)) (2 ^ (b + 1074)) z h) in
      (r.0, le_trans g.left r.1, more (le_trans g.right r.1) r.2)

zero_upto : UpTo 0 zero64
zero_upto = record { fit = zero-fits; fin = tt; le = le_of_eq zero_mag }

-- at most 24 terms
few : (t p l : ℕ) → l ≤ 24 → 24 * (2 * t) < p → 0 + l * (2 * t) < p
few t p l n h = lt_of_le_of_lt (le_trans (le_of_eq (zero-add (l * (2 * t)))) (mul-le-mul_right (2 * t) n)) h

-- ---- x·y
product_is : (x y : Float) → Sample x → UpTo (2 ^ 31 * U) y → UpTo (2 ^ 2070) (mul binary64 x y)
product_is x y u w =
    let r = mul-rounded x y 996 u.fit w.fit u.fin w.fin (lit≤ tt) (lt_of_le_of_lt (mul-le-mul u.le w.le) room) in
    record {
      fit = r.fit;
      fin = r.fin;
      le = le_of_mul-le-mul_right (le_trans r.hi (le_trans (add-le-add (mul-le-mul u.le w.le) (le_refl (2 ^ 2016 * U))) top)) (pow_pos 1074);
    }
  where
    room : mag_units limit64 * (2 ^ 31 * U) < 2 ^ 2070 * U
    room = unfold mag_units in lit≤ tt

    top : mag_units limit64 * (2 ^ 31 * U) + 2 ^ 2016 * U ≤ 2 ^ 2070 * U
    top = unfold mag_units in lit≤ tt

products_are : (xs ds : List Float) → Each Sample xs → Each (UpTo (2 ^ 31 * U)) ds → Each (UpTo (2 ^ 2070)) (products xs ds)
unfolding products
products_are [] ds none e = none
products_are (x ∷ xs) [] (more u d) none = none
products_are (x ∷ xs) (y ∷ ds) (more u d) (more w e) = more (product_is x y u w) (products_are xs ds d e)

products-length : (xs ds : List Float) → length (products xs ds) ≤ length xs
unfolding products
products-length [] ds = zero-le
products-length (x ∷ xs) [] = zero-le
products-length (x ∷ xs) (y ∷ ds) = suc-le-suc (products-length xs ds)

dot_is : (xs ds : List Float) → length xs ≤ 24 → Each Sample xs → Each (UpTo (2 ^ 31 * U)) ds → UpTo (2 ^ 2076) (dot_of xs ds)
dot_is xs ds n d e =
    let less = few (2 ^ 2070) (2 ^ 2076) (length (products xs ds)) (le_trans (products-length xs ds) n) (lit≤ tt) in
    let r = sum-small (2 ^ 2070) 1002 (lit≤ tt) (lit≤ tt) zero64 (products xs ds) 0 zero_upto (products_are xs ds d e) less in
    record { fit = r.fit; fin = r.fin; le = le_trans r.le (le_of_lt less) }

-- ---- y·y
square_is : (y : Float) → UpTo (2 ^ 31 * U) y → UpTo (2 ^ 1137) (mul binary64 y y) × Plain (mul binary64 y y)
square_is y u =
    let room : 2 ^ 31 * U * (2 ^ 31 * U) < 2 ^ 1137 * U = lit≤ tt in
    let top : 2 ^ 31 * U * (2 ^ 31 * U) + 2 ^ 1083 * U ≤ 2 ^ 1137 * U = lit≤ tt in
    let r = mul-rounded y y 63 u.fit u.fit u.fin u.fin (lit≤ tt) (lt_of_le_of_lt (mul-le-mul u.le u.le) room) in (
      record {
        fit = r.fit;
        fin = r.fin;
        le = le_of_mul-le-mul_right (le_trans r.hi (le_trans (add-le-add (mul-le-mul u.le u.le) (le_refl (2 ^ 1083 * U))) top))
            (pow_pos 1074);
      },
      record { fit = r.fit; fin = r.fin; sign = r.sign ∙ unlike_same (is_minus y) },
    )

-- of a whole number that is not 0: a half at least
square-ge : (y : Float) → UpTo (2 ^ 31 * U) y → U ≤ mag_units y → U ≤ 2 * mag_units (mul binary64 y y)
square-ge y u h =
    let t = mag_units (mul binary64 y y) in
    let room : 2 ^ 31 * U * (2 ^ 31 * U) < 2 ^ 2097 * U = lit≤ tt in
    let r = mul-close y y u.fit u.fit u.fin u.fin (lt_of_le_of_lt (mul-le-mul u.le u.le) room) in
    let low : 999 * U ≤ 1000 * t + 500 =
    cancel 999 1000 500 U t U (pow_pos 1074)
    (le_trans (mul-le-mul_left 999 (mul-le-mul h h)) (at_least (mag_units y * mag_units y) (t * U) U r.lo)) in
    go U t low (lit≤ tt)
  where
    go : (u t : ℕ) → 999 * u ≤ 1000 * t + 500 → 501 ≤ u → u ≤ 2 * t
    go u t h k = omega arith

squares_are : (ds : List Float) → Each (UpTo (2 ^ 31 * U)) ds → Each (UpTo (2 ^ 1137)) (products ds ds) × Each Plain (products ds ds)
unfolding products
squares_are [] none = (none, none)
squares_are (y ∷ ds) (more u e) = let r = squares_are ds e in (more (square_is y u).0 r.0, more (square_is y u).1 r.1)

-- one of them bounds what bounds them all
squares-reach : (g : ℕ) (ys : List ℤ) → All32 ys → (k : ℕ) → k < length ys → 0 < nat_abs (get_or ys k (pos 0))
    → Each (λ (x : Float). mag_units x ≤ g) (products (doubles_of ys) (doubles_of ys)) → U ≤ 2 * g
unfolding products doubles_of
squares-reach g [] h k l p e = absurd (not-suc-le-zero l)
squares-reach g (y ∷ ys) h zero l p (more a e) =
    le_trans
    (square-ge (of_int binary64 y) (double_is y (h 0))
    (le_trans (le_of_eq (sym (one-mul U))) (le_trans (mul-le-mul_right U p) (le_of_eq (sym (mag_whole y (h 0)))))))
    (mul-le-mul_left 2 a)
squares-reach g (y ∷ ys) h (suc k) l p (more a e) = squares-reach g ys (λ (j : ℕ). h (suc j)) k (le_of_suc-le-suc l) p e

-- ---- a half
half64 : Float
half64 = fin false 1 (negsuc 0)

half-fits : T (fits binary64 half64)
unfolding half64 fits
half-fits = tt

half-finite : T (finite half64)
unfolding half64
half-finite = tt

half_units : mag_units half64 ≡ 2 ^ 1073
unfolding half64 mag_units
half_units = refl

-- ---- the quotient
module _ (d n : Float) (u : UpTo (2 ^ 2076) d) (p : Plain n) (h : U ≤ 2 * mag_units n) where
  n_pos : 0 < mag_units n
  n_pos = go U (mag_units n) h (pow_pos 1074)
    where
      go : (u n : ℕ) → u ≤ 2 * n → 0 < u → 0 < n
      go u n h k = omega arith

  root_ge : 2 ^ 1073 ≤ mag_units (rooted n).root
  root_ge =
      let two : 2 * 2 ^ 1073 ≤ U = lit≤ tt in
      let low : 2 ^ 1073 ≤ mag_units n = half (2 ^ 1073) (mag_units n) (le_trans two h) in
      let square : 2 ^ 1073 * 2 ^ 1073 ≤ 2 ^ 1073 * U = lit≤ tt in
      le_trans (le_of_eq (sym half_units))
      (root_from n (rooted n).root half64 (rooted-nearest n p.fit p.fin p.sign n_pos) half-fits half-finite
      (le_trans (le_of_eq (ap (λ (z : ℕ). z * z) half_units)) (le_trans square (mul-le-mul_right U low))))
    where
      half : (a b : ℕ) → 2 * a ≤ 2 * b → a ≤ b
      half a b h = omega arith

  over_root-finite : T (finite (score_of d n))
  over_root-finite =
      let r = rooted-nearest n p.fit p.fin p.sign n_pos in
      let room : 2 ^ 2076 * U < 2 ^ 2078 * 2 ^ 1073 = lit≤ tt in
      let q =
      fraction-rounded 1004 (div-fraction d (rooted n).root u.fit r.fit u.fin r.fin (lt_of_lt_of_le (pow_pos 1073) root_ge)) (lit≤ tt)
      (lt_of_le_of_lt (mul-le-mul_right U u.le) (lt_of_lt_of_le room (mul-le-mul_left (2 ^ 2078) root_ge))) in
      rw (is_true (lt zero64 n) (above_zero n p n_pos)) q.fin

-- ---- THE THEOREMS
pub score-finite : (xs : List Float) (ys : List ℤ) → AllFit xs → sample_number xs ≡ 0 → length xs ≤ 24 → All32 ys → length ys ≤ 24
    → (k : ℕ) → k < length ys → 0 < nat_abs (get_or ys k (pos 0)) → T (finite (t_of xs ys))
unfolding t_of
score-finite xs ys f a m h n k l p =
    let ds = doubles_of ys in
    let e = doubles_are ys h in
    let s = squares_are ds e in
    let many = le_trans (products-length ds ds) (le_trans (le_of_eq (doubles-length ys)) n) in
    let less = few (2 ^ 1137) (2 ^ 1143) (length (products ds ds)) many (lit≤ tt) in
    let r = sum-small (2 ^ 1137) 69 (lit≤ tt) (lit≤ tt) zero64 (products ds ds) 0 zero_upto s.0 less in
    let g = sum_grows (2 ^ 1137) 69 (lit≤ tt) (lit≤ tt) zero64 (products ds ds) 0 zero_upto refl s.0 s.1 less in
    over_root-finite (dot_of xs ds) (dot_of ds ds) (dot_is xs ds m (samples_are xs f a) e) (record { fit = r.fit; fin = r.fin; sign = g.0 })
    (squares-reach (mag_units (dot_of ds ds)) ys h k l p g.2)

zero_term : add binary64 zero64 (mul binary64 (of_int binary64 (pos 0)) (of_int binary64 (pos 0))) ≡ zero64
unfolding add sum mul round size of_int
zero_term = refl

zero-sum : (ys : List ℤ) → ((k : ℕ) → k < length ys → get_or ys k (pos 0) ≡ pos 0) → dot_of (doubles_of ys) (doubles_of ys) ≡ zero64
unfolding sum_from products doubles_of
zero-sum [] h = refl
zero-sum (y ∷ ys) h =
    let rest = products (doubles_of ys) (doubles_of ys) in
    ap (λ (z : ℤ). sum_from (add binary64 zero64 (mul binary64 (of_int binary64 z) (of_int binary64 z))) rest) (h 0 (zero-lt-suc (length ys)))
    ∙ ap (λ (a : Float). sum_from a rest) zero_term
    ∙ zero-sum ys (λ k l. h (suc k) (suc-le-suc l))

pub score-origin : (xs : List Float) (ys : List ℤ) → ((k : ℕ) → k < length ys → get_or ys k (pos 0) ≡ pos 0) → t_of xs ys ≡ inf true
unfolding t_of lt
score-origin xs ys h = ap (score_of (dot_of xs (doubles_of ys))) (zero-sum ys h)
