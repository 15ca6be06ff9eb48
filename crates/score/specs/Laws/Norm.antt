-- The norm of the samples over their largest magnitude lies between 0.999 and 157 / 32, which is 4.90625. Assumes nothing.
use Rattle.std.specs.Prelude.{◌≡◌, refl, Bool, true, false, cond, ℕ, suc, ◌+◌, ◌-◌, ◌*◌, ◌^◌, ◌≤◌, ◌<◌, T, negsuc, length, Float}
use Rattle.std.proofs.Common.{sym, ap, ◌∙◌, subst, zero-le, le_refl, le_of_eq, lt_of_le_of_lt, add-le-add, mul_comm, add-mul, suc-mul, mul-le-mul, mul-le-mul_left, mul-le-mul_right, mul-lt-mul_of_pos_right, le_of_mul-le-mul_right, add_comm, lit≤, pow_pos}
use mathlib.Core.List.{List, [], ◌∷◌}
use Rattle.std.proofs.Math.Nat.{le_trans}
use native.Mathlib.Omega.{arith}
use Rattle.std.specs.Float.Ieee.{fin, binary64, fits, mul, div, unlike}
use Rattle.std.specs.Float.Ieee.Scale.{finite}
use Rattle.laws.specs.Words.{gap}
use Rattle.float.specs.Value.{U, mag_units, is_minus, pos_units}
use Rattle.float.specs.Calls.{quotients_of}
use Rattle.float.specs.Laws.Exact.{parts, unlike_same}
use Rattle.float.specs.Laws.Error.{half_ulp, Rounded}
use Rattle.float.specs.Laws.Near.{Near, near_self, near_mag-plain, mag_near-plain}
use Rattle.float.specs.Laws.Arrays.{quotients-length}
use Rattle.float.specs.Laws.Arithmetic.{div-fraction, fraction-rounded, mul-rounded}
use Rattle.float.specs.Laws.Margin as sums
use Rattle.root.specs.Root.{rooted}
use Rattle.root.specs.Nearest.{rooted-nearest}
use Rattle.root.specs.Laws.{root_from, root-upto}
use Rattle.score.specs.Score.{products, dot_of}
use Rattle.score.specs.Scale.{unit_norm}
use Rattle.score.specs.Laws.Sample.{UpTo, Each, none, more}
use Rattle.score.specs.Laws.Largest.{Has, here, there, Plain}
use Rattle.laws.specs.Laws.Order.{sub-below}

-- ---- x over an m that is no smaller: 1 at most, and 1 where x has the size of m, but for half a place
module _ (m : Float) (p : Plain m) (M : 0 < mag_units m) where
  over : (x : Float) → UpTo (mag_units m) x → Rounded (div binary64 x m) (unlike (is_minus x) (is_minus m)) (mag_units x * U) (mag_units m) 1
  over x u =
      fraction-rounded 1 (div-fraction x m u.fit p.fit u.fin p.fin M) (lit≤ tt)
      (lt_of_le_of_lt (mul-le-mul_right U u.le)
      (lt_of_le_of_lt (le_of_eq (mul_comm (mag_units m) U)) (mul-lt-mul_of_pos_right wide M)))
    where
      wide : U < 2 ^ 1075
      wide = lit≤ tt

  pub over-le : (x : Float) → UpTo (mag_units m) x → mag_units (div binary64 x m) ≤ U + 2 ^ 1021
  over-le x u =
      le_of_mul-le-mul_right
      (le_trans (over x u).hi
      (le_trans (add-le-add (le_trans (mul-le-mul_right U u.le) (le_of_eq (mul_comm (mag_units m) U))) (le_refl (2 ^ 1021 * mag_units m)))
      (le_of_eq (sym (add-mul U (2 ^ 1021) (mag_units m))))))
      M

  pub over-ge : (x : Float) → UpTo (mag_units m) x → mag_units x ≡ mag_units m → U ≤ mag_units (div binary64 x m) + 2 ^ 1021
  over-ge x u e =
      le_of_mul-le-mul_right
      (le_trans (le_of_eq (mul_comm U (mag_units m) ∙ ap (λ (z : ℕ). z * U) (sym e)))
      (le_trans (over x u).lo (le_of_eq (sym (add-mul (mag_units (div binary64 x m)) (2 ^ 1021) (mag_units m))))))
      M

  pub over_all : (xs : List Float) → Each (UpTo (mag_units m)) xs → Each (UpTo (U + 2 ^ 1021)) (quotients_of xs m)
  unfolding quotients_of
  over_all [] none = none
  over_all (x ∷ xs) (more u e) = more (record { fit = (over x u).fit; fin = (over x u).fin; le = over-le x u }) (over_all xs e)

  -- so what none of them exceeds is 1 or more
  pub over_reaches : (g : ℕ) (xs : List Float) → Each (UpTo (mag_units m)) xs → Has (mag_units m) xs → Each (UpTo g) (quotients_of xs m)
      → U ≤ g + 2 ^ 1021
  unfolding quotients_of
  over_reaches g [] e h d = elim h [ ]
  over_reaches g (x ∷ xs) (more u e) (here i) (more b d) = le_trans (over-ge x u i) (add-le-add b.le (le_refl (2 ^ 1021)))
  over_reaches g (x ∷ xs) (more u e) (there h) (more b d) = over_reaches g xs e h d

-- ---- squares: of at most 1 and a bit, and of 1 but for a bit
sq : (q : Float) → UpTo (U + 2 ^ 1021) q → Rounded (mul binary64 q q) (unlike (is_minus q) (is_minus q)) (mag_units q * mag_units q) U 2
sq q u = mul-rounded q q 2 u.fit u.fit u.fin u.fin (lit≤ tt) (lt_of_le_of_lt (mul-le-mul u.le u.le) room)
  where
    room : (U + 2 ^ 1021) * (U + 2 ^ 1021) < 2 ^ 1076 * U
    room = lit≤ tt

record Square (t : Float) : Type 0 where
  plain : Plain t
  le : mag_units t ≤ U + 2 ^ 1026

square : (q : Float) → UpTo (U + 2 ^ 1021) q → Square (mul binary64 q q)
square q u =
    let r = sq q u in
    let room : (U + 2 ^ 1021) * (U + 2 ^ 1021) + 2 ^ 1022 * U ≤ (U + 2 ^ 1026) * U = lit≤ tt in
    record {
      plain = record { fit = r.fit; fin = r.fin; sign = r.sign ∙ unlike_same (is_minus q) };
      le = le_of_mul-le-mul_right (le_trans r.hi (le_trans (add-le-add (mul-le-mul u.le u.le) (le_refl (2 ^ 1022 * U))) room))
          (pow_pos 1074);
    }

square-ge : (q : Float) → UpTo (U + 2 ^ 1021) q → U ≤ mag_units q + 2 ^ 1021 → U ≤ mag_units (mul binary64 q q) + 2 ^ 1024
square-ge q u h =
    let g : U - 2 ^ 1021 ≤ mag_units q = sub-below U (2 ^ 1021) (mag_units q) h in
    let low : U * U ≤ (U - 2 ^ 1021) * (U - 2 ^ 1021) + 2 ^ 1023 * U = lit≤ tt in
    let both : 2 ^ 1022 + 2 ^ 1023 ≤ 2 ^ 1024 = lit≤ tt in
    le_of_mul-le-mul_right
    (le_trans low
    (le_trans (add-le-add (le_trans (mul-le-mul g g) (sq q u).lo) (le_refl (2 ^ 1023 * U)))
    (le_trans (le_of_eq (join (mag_units (mul binary64 q q)) (2 ^ 1022) (2 ^ 1023) U))
    (mul-le-mul_right U (add-le-add (le_refl (mag_units (mul binary64 q q))) both)))))
    (pow_pos 1074)
  where
    join : (t a b u : ℕ) → t * u + a * u + b * u ≡ (t + (a + b)) * u
    join t a b u =
        let i : (t + (a + b)) * u ≡ t * u + (a + b) * u = add-mul t (a + b) u in
        let j : (a + b) * u ≡ a * u + b * u = add-mul a b u in
        omega arith

-- ---- their sum
total : List Float → ℕ
total [] = 0
total (t ∷ ts) = mag_units t + total ts

terms : (ts : List Float) → Each Square ts → sums.Terms 1 0 ts (total ts) 0
unfolding total
terms [] none = sums.none
terms (t ∷ ts) (more s e) =
    let p = parts t false s.plain.sign in
    let n : Near 1 t (mag_units t) 0 0 =
    subst (λ (z : ℕ). Near 1 t z 0 0) p.0
    (subst (λ (z : ℕ). Near 1 t (pos_units t) z 0) p.1 (near_self t s.plain.fit s.plain.fin)) in
    sums.more n (terms ts e)

total-le : (ts : List Float) → Each Square ts → total ts ≤ length ts * (U + 2 ^ 1026)
unfolding total
total-le [] none = zero-le
total-le (t ∷ ts) (more s e) =
    le_trans (add-le-add s.le (total-le ts e)) (le_of_eq (add_comm most (length ts * most) ∙ sym (suc-mul (length ts) most)))
  where
    most : ℕ
    most = U + 2 ^ 1026

squares : (qs : List Float) → Each (UpTo (U + 2 ^ 1021)) qs → Each Square (products qs qs)
unfolding products
squares [] none = none
squares (q ∷ qs) (more u e) = more (square q u) (squares qs e)

squares-length : (qs : List Float) → length (products qs qs) ≡ length qs
unfolding products
squares-length [] = refl
squares-length (q ∷ qs) = ap suc (squares-length qs)

module _ (m : Float) (p : Plain m) (M : 0 < mag_units m) where
  total-ge : (xs : List Float) → Each (UpTo (mag_units m)) xs → Has (mag_units m) xs
      → U ≤ total (products (quotients_of xs m) (quotients_of xs m)) + 2 ^ 1024
  unfolding total products quotients_of
  total-ge [] e h = elim h [ ]
  total-ge (x ∷ xs) (more u e) (here i) =
      let q = div binary64 x m in
      let r = over m p M x u in
      let rest = total (products (quotients_of xs m) (quotients_of xs m)) in
      grow (mag_units (mul binary64 q q)) rest U (2 ^ 1024)
      (square-ge q (record { fit = r.fit; fin = r.fin; le = over-le m p M x u }) (over-ge m p M x u i))
    where
      grow : (a b u c : ℕ) → u ≤ a + c → u ≤ a + b + c
      grow a b u c h = omega arith
  total-ge (x ∷ xs) (more u e) (there h) =
      let q = div binary64 x m in
      let rest = total (products (quotients_of xs m) (quotients_of xs m)) in
      grow (mag_units (mul binary64 q q)) rest U (2 ^ 1024) (total-ge xs e h)
    where
      grow : (a b u c : ℕ) → u ≤ b + c → u ≤ a + b + c
      grow a b u c h = omega arith

-- a number near one that is 1 at least and 24 at most, but for a bit
record Sum (x : Float) : Type 0 where
  fit : T (fits binary64 x)
  fin : T (finite x)
  sign : is_minus x ≡ false
  low : U ≤ mag_units x + 2 ^ 1032
  high : mag_units x ≤ 24 * U + 2 ^ 1032

sum_of : (x : Float) (v : ℕ) → Near 1 x v 0 (2 ^ 1031) → U ≤ v + 2 ^ 1024 → v ≤ 24 * (U + 2 ^ 1026) → Sum x
sum_of x v n low high =
    let top : 24 * (U + 2 ^ 1026) + 2 ^ 1031 ≤ 24 * U + 2 ^ 1032 = lit≤ tt in
    let both : 2 ^ 1031 + 2 ^ 1024 ≤ 2 ^ 1032 = lit≤ tt in
    let far : 2 ^ 1031 + 2 ^ 1024 < U = lit≤ tt in
    record {
      fit = n.fit;
      fin = n.fin;
      sign = plain (is_minus x) (mag_units x) (2 ^ 1031) (2 ^ 1024) U n.lo low far;
      low = le_trans (up (mag_units x) (2 ^ 1031) (2 ^ 1024) U (mag_near-plain n) low) (add-le-add (le_refl (mag_units x)) both);
      high = le_trans (near_mag-plain n) (le_trans (add-le-add (le_trans (le_of_eq (whole v)) high) (le_refl (2 ^ 1031))) top);
    }
  where
    whole : (a : ℕ) → gap a 0 ≡ a
    whole a = omega arith

    plain : (s : Bool) (g e f u : ℕ) → v + cond s g 0 * 1 ≤ cond s 0 g * 1 + 0 + e → u ≤ v + f → e + f < u → s ≡ false
    plain false g e f u h l k = refl
    plain true g e f u h l k = absurd (omega arith)

    up : (a e f u : ℕ) → gap v 0 ≤ a + e → u ≤ v + f → u ≤ a + (e + f)
    up a e f u h l = omega arith

-- ---- the norm
-- 157 / 32, a little more than the root of 24
most64 : Float
most64 = fin false 157 (negsuc 4)

-- 1023 / 1024
nearly64 : Float
nearly64 = fin false 1023 (negsuc 9)

most_is : UpTo (5 * U) most64
unfolding most64 fits mag_units
most_is = record { fit = tt; fin = tt; le = lit≤ tt }

most_units : mag_units most64 ≡ 157 * 2 ^ 1069
unfolding most64 mag_units
most_units = refl

nearly_is : UpTo U nearly64
unfolding nearly64 fits mag_units
nearly_is = record { fit = tt; fin = tt; le = lit≤ tt }

nearly_units : mag_units nearly64 ≡ 1023 * 2 ^ 1064
unfolding nearly64 mag_units
nearly_units = refl

pub record Norm (n : Float) : Type 0 where
  pub plain : Plain n
  pub low : 999 * U ≤ 1000 * mag_units n
  pub high : 32 * mag_units n ≤ 157 * U

root_is : (x : Float) → Sum x → 0 < mag_units x → Norm (rooted x).root
root_is x s P =
    let r = (rooted x).root in
    let n = rooted-nearest x s.fit s.fin s.sign P in
    let g : U - 2 ^ 1032 ≤ mag_units x = sub-below U (2 ^ 1032) (mag_units x) s.low in
    let a : 1023 * 2 ^ 1064 * (1023 * 2 ^ 1064) ≤ (U - 2 ^ 1032) * U = lit≤ tt in
    let b : (24 * U + 2 ^ 1032) * U ≤ 157 * 2 ^ 1069 * (157 * 2 ^ 1069) = lit≤ tt in
    let d : 32 * (157 * 2 ^ 1069) ≤ 157 * U = lit≤ tt in
    let c : 999 * U ≤ 1000 * (1023 * 2 ^ 1064) = lit≤ tt in
    let lo : 1023 * 2 ^ 1064 ≤ mag_units r =
    le_trans (le_of_eq (sym nearly_units))
    (root_from x r nearly64 n nearly_is.fit nearly_is.fin
    (le_trans (le_of_eq (ap (λ (z : ℕ). z * z) nearly_units)) (le_trans a (mul-le-mul_right U g)))) in
    let hi : mag_units r ≤ mag_units most64 =
    root-upto x r most64 n most_is.fit most_is.fin
    (le_trans (mul-le-mul_right U s.high) (le_trans b (le_of_eq (sym (ap (λ (z : ℕ). z * z) most_units))))) in
    record {
      plain = record { fit = n.fit; fin = n.fin; sign = n.sign };
      low = le_trans c (mul-le-mul_left 1000 lo);
      high = le_trans (mul-le-mul_left 32 (le_trans hi (le_of_eq most_units))) d;
    }

module _ (xs : List Float) (m : Float) (p : Plain m) (M : 0 < mag_units m) (len : length xs ≤ 24) (e : Each (UpTo (mag_units m)) xs)
    (h : Has (mag_units m) xs) where
  abbrev qs : List Float
  qs = quotients_of xs m

  small : Each (UpTo (U + 2 ^ 1021)) qs
  small = over_all m p M xs e

  many : length (products qs qs) ≤ 24
  many = le_trans (le_of_eq (squares-length qs ∙ quotients-length xs m)) len

  most : total (products qs qs) ≤ 24 * (U + 2 ^ 1026)
  most = le_trans (total-le (products qs qs) (squares qs small)) (mul-le-mul_right (U + 2 ^ 1026) many)

  sum_is : Sum (dot_of qs qs)
  sum_is =
      let w = 0 + half_ulp 6 * 1 in
      let top : 24 * (U + 2 ^ 1026) + 24 * w < 2 ^ 1080 * 1 = lit≤ tt in
      let near : Near 1 (dot_of qs qs) (total (products qs qs)) 0 (2 ^ 1031) =
      sums.near-sum_of 1 0 (products qs qs) 6 24 (2 ^ 1031) (lit≤ tt) (terms (products qs qs) (squares qs small)) many
      (lt_of_le_of_lt (add-le-add most (le_refl (24 * w))) top) (lit≤ tt) in
      sum_of (dot_of qs qs) (total (products qs qs)) near (total-ge m p M xs e h) most

  sum_pos : 0 < mag_units (dot_of qs qs)
  sum_pos = go (mag_units (dot_of qs qs)) U (2 ^ 1032) sum_is.low (lit≤ tt)
    where
      go : (a u c : ℕ) → u ≤ a + c → c < u → 0 < a
      go a u c h k = omega arith

  pub norm_is : Norm (unit_norm xs m)
  unfolding unit_norm
  norm_is = root_is (dot_of qs qs) sum_is sum_pos
