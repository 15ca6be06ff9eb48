-- Doubles of bounded size: sums, differences and squared distances of targets up to a million stay far below the largest double.
use Rattle.std.specs.Prelude.{◌≡◌, refl, List, ℕ, zero, suc, ◌+◌, ◌*◌, ◌^◌, ◌≤◌, ◌<◌, T, get_or, ℤ, nat_abs, Float}
use Rattle.std.proofs.Common.{sym, zero-le, le_refl, le_trans, le_of_eq, le_of_lt, lt_of_le_of_lt, lt_of_lt_of_le, le_of_mul-le-mul_right, mul-le-mul, mul-le-mul_right, add-le-add, add-mul, suc-mul, arith, lit≤, pow_pos}
use Rattle.std.specs.Float.{nan, binary64}
use Rattle.std.specs.Float.Ieee.{fits, add, sub, of_int}
use Rattle.std.specs.Float.Ieee.Scale.{finite}
use Rattle.laws.specs.Words.{gap}
use Rattle.float.specs.Value.{U, mag_units, pos_units, neg_units, zero64}
use Rattle.float.specs.Laws.Exact.{mag_parts, neg_mag, of_int_whole, zero-fits, zero_mag}
use Rattle.float.specs.Laws.Error.{half_ulp}
use Rattle.float.specs.Laws.Near.{near_self, near-neg, near_mag-plain}
use Rattle.float.specs.Laws.Arithmetic.{near_add, mul-rounded}
use Rattle.search.specs.Record.{sq_to, slot_k, member}
use Rattle.search.specs.Entries.{dist_to}
use Rattle.nearest.specs.Laws.Shape.{member-abs, slot-abs}
use Rattle.nearest.specs.Laws.Coordinate.{int_mg}

-- a finite double of at most B units
pub record Below (B : ℕ) (x : Float) : Type 0 where
  pub fit : T (fits binary64 x)
  pub fin : T (finite x)
  pub low : mag_units x ≤ B

pub wider : {A : ℕ} {x : Float} (B : ℕ) → A ≤ B → Below A x → Below B x
wider B h a = record { fit = a.fit; fin = a.fin; low = le_trans a.low h }

-- the room for all of them, and the error of one operation
abbrev pub Room : ℕ
Room = 2 ^ 1134

abbrev pub Err : ℕ
Err = half_ulp 60

pub zero_below : (B : ℕ) → Below B zero64
zero_below B = record { fit = zero-fits; fin = tt; low = le_trans (le_of_eq zero_mag) zero-le }

pub add-below : {A B : ℕ} {x y : Float} → Below A x → Below B y → A + B < Room → Below (A + B + Err) (add binary64 x y)
add-below {A} {B} {x} {y} a b h =
    let n = near_add 60 (near_self x a.fit a.fin) (near_self y b.fit b.fin) (lit≤ tt)
    (lt_of_le_of_lt (add-le-add a.low b.low) h) in
    record {
      fit = n.fit;
      fin = n.fin;
      low =
          le_trans (near_mag-plain n) (go (pos_units x) (neg_units x) (pos_units y) (neg_units y) (mag_units x) (mag_units y) A B Err (mag_parts x)
          (mag_parts y) a.low b.low);
    }
  where
    go : (p n q m x y A B e : ℕ) → x ≡ p + n → y ≡ q + m → x ≤ A → y ≤ B → gap (p + q) (n + m) + (0 + 0 + e * 1) ≤ A + B + e
    go p n q m x y A B e h k u v = omega arith

-- a difference is the sum with the other sign
pub sub-below : {A B : ℕ} {x y : Float} → Below A x → Below B y → A + B < Room → Below (A + B + Err) (sub binary64 x y)
unfolding sub
sub-below {y = y} a b h =
    let n = near-neg (near_self y b.fit b.fin) in
    add-below a (record { fit = n.fit; fin = n.fin; low = le_trans (le_of_eq (neg_mag y)) b.low }) h

-- ---- targets: at most a million in size
abbrev pub Target : Float → Type 0
Target = Below (1000000 * U)

-- the room of one squared distance
abbrev pub Term : ℕ
Term = 2 ^ 1123

pub term-below : (v : ℤ) (t : Float) → nat_abs v < 2 ^ 22 → Target t → Below (2 ^ 1122 + Err) (sq_to v t)
term-below v t h T0 =
    let w = of_int_whole v (lt_of_lt_of_le h (lit≤ tt)) in
    let a : Below (4194304 * U) (of_int binary64 v) = record { fit = w.fit; fin = w.fin; low = int_mg v 4194304 (le_of_lt h) (lit≤ tt) } in
    let d = wider (2 ^ 1098) (lit≤ tt) (sub-below a T0 (lit≤ tt)) in
    let x = sub binary64 (of_int binary64 v) t in
    let s : mag_units x * mag_units x ≤ 2 ^ 1098 * 2 ^ 1098 = mul-le-mul d.low d.low in
    let r = mul-rounded x x 60 d.fit d.fit d.fin d.fin (lit≤ tt) (lt_of_le_of_lt s (lit≤ tt)) in
    record {
      fit = r.fit;
      fin = r.fin;
      low = le_of_mul-le-mul_right (le_trans r.hi
          (le_trans (add-le-add (le_trans s (le_of_eq same)) (le_refl (Err * U))) (le_of_eq (sym (add-mul (2 ^ 1122) Err U))))) (pow_pos 1074);
    }
  where
    same : 2 ^ 1098 * 2 ^ 1098 ≡ 2 ^ 1122 * U
    same = refl

-- ---- one more term, added or taken away
one_more : (n : ℕ) → n * Term + (2 ^ 1122 + Err) + Err ≤ suc n * Term
one_more n = more n Term (2 ^ 1122 + Err) Err (lit≤ tt)
  where
    more : (n t a e : ℕ) → a + e ≤ t → n * t + a + e ≤ suc n * t
    more n t a e h = let x = suc-mul n t in omega arith

one_room : (n : ℕ) → n < 12 → n * Term + (2 ^ 1122 + Err) < Room
one_room n h = lt_of_le_of_lt (add-le-add (mul-le-mul_right Term (le_of_lt h)) (le_refl (2 ^ 1122 + Err))) (lit≤ tt)

pub plus : (n : ℕ) → n < 12 → (x y : Float) → Below (n * Term) x → Below (2 ^ 1122 + Err) y → Below (suc n * Term) (add binary64 x y)
plus n h x y a b = wider (suc n * Term) (one_more n) (add-below a b (one_room n h))

pub less : (n : ℕ) → n < 12 → (x y : Float) → Below (n * Term) x → Below (2 ^ 1122 + Err) y → Below (suc n * Term) (sub binary64 x y)
less n h x y a b = wider (suc n * Term) (one_more n) (sub-below a b (one_room n h))

-- ---- a section's distance, summed from zero on
pub dist_below : (v : ℕ → ℤ) (ts : List Float) → ((j : ℕ) → j < 8 → nat_abs (v j) < 2 ^ 22) → ((j : ℕ) → j < 8 → Target (get_or ts j nan))
    → (n : ℕ) → n ≤ 8 → Below (n * Term) (dist_to v ts n)
unfolding dist_to
dist_below v ts W T0 zero h = zero_below (0 * Term)
dist_below v ts W T0 (suc n) h =
    plus n (omega arith) (dist_to v ts n) (sq_to (v n) (get_or ts n nan)) (dist_below v ts W T0 n (omega arith))
    (term-below (v n) (get_or ts n nan) (W n h) (T0 n h))

-- ---- whole numbers
pub member_far : (o : ℕ) (k : ℤ) → o < 4 → nat_abs k ≤ 1000002 → nat_abs (member o k) < 2 ^ 22
member_far o k h l = let a = member-abs o k in lt_of_le_of_lt (go (nat_abs (member o k)) o (nat_abs k) a h l) (lit≤ tt)
  where
    go : (v o k : ℕ) → v ≤ o + 4 * k → o < 4 → k ≤ 1000002 → v ≤ 4000011
    go v o k a h l = omega arith

pub slot_far : (k : ℤ) (f : ℕ) → nat_abs k ≤ 1000000 → f < 5 → nat_abs (slot_k k f) ≤ 1000002
slot_far k f h l = let a = slot-abs k f l in omega arith
