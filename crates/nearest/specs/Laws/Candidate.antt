-- A candidate is eight whole numbers k; its cost, key and distance say what they are; if a bound holds of it, its value stands for the
-- section of its key.
use Rattle.std.specs.Prelude.{◌≡◌, refl, true, List, get_or, ℤ, nat_abs, Float}
use Rattle.std.proofs.Common.{sym, ap, ap₂, subst, le_refl, le_trans, le_of_eq, le_of_lt, lt_of_lt_of_le, lt_of_le_of_lt, mul-le-mul, mul-le-mul_left, add-le-add, lit≤}
use Prim.Native.Nat.{ℕ, zero, suc, ◌+◌, ◌*◌, ◌^◌, ◌≤◌, ◌<◌, zero-le}
use Rattle.std.proofs.Math.Nat.{mul-le-mul_right, suc-mul}
use native.Mathlib.Omega.{arith}
use Rattle.std.specs.Float.{nan, binary64}
use Rattle.std.specs.Float.Ieee.{sub, of_int}
use Rattle.float.specs.Value.{mag_units, pos_units, neg_units, U}
use Rattle.float.specs.Laws.Error.{half_ulp}
use Rattle.float.specs.Laws.Near.{Near, near_self, near-more, near_mag-plain, near_zero}
use Rattle.float.specs.Laws.Arithmetic.{near_sub, near-square}
use Rattle.laws.specs.Words.{gap}
use Rattle.float.specs.Laws.Exact.{of_int_whole}
use Rattle.float.specs.Laws.Margin.{apart, apart-le}
use Rattle.float.specs.Distance.{coord_gap}
use Rattle.search.specs.Record.{sq_to, member}
use Rattle.search.specs.Entries.{dist_to, section_at}
use Rattle.search.specs.declared.Closed.{Closed}
use Rattle.search.specs.Bound.{holds}
use Rattle.nearest.specs.Laws.Shape.{Shape, member-abs, o_at, o_lt, shape_at}
use Rattle.nearest.specs.Laws.Forms.{sum_to, par_k}
use Rattle.nearest.specs.Laws.Sums.{sum_same}
use Rattle.nearest.specs.Laws.Coordinate.{Target, int_mg}
use Rattle.nearest.specs.Laws.Operations.{H, near-plus}
use Rattle.nearest.specs.Laws.Lattice.{dist8}
use Rattle.nearest.specs.Laws.Entries.{ES, Stands}

abbrev pub ET : ℕ
ET = 2 ^ 2113

abbrev pub TopT : ℕ
TopT = 2 ^ 2164

abbrev pub t_at : List Float → ℕ → Float
t_at ts j = get_or ts j nan

abbrev pub sq_v : ℤ → Float → ℕ
sq_v v t = coord_gap v t * coord_gap v t

pub record Term (v : ℤ) (t : Float) : Type 0 where
  pub near : Near U (sq_to v t) (sq_v v t) 0 ET
  pub top : sq_v v t ≤ TopT

-- one coordinate, |v| below 128 and |t| below 32
pub term : (v : ℤ) (t : Float) → nat_abs v < 128 → Target t → Term v t
term v t h T0 =
    let a = of_int binary64 v in
    let w = of_int_whole v (lt_of_lt_of_le h (lit≤ tt)) in
    let d = sub binary64 a t in
    let s : mag_units a + mag_units t < 2 ^ 1082 = lt_of_le_of_lt (add-le-add (int_mg v 127 (le_pred h) (lit≤ tt)) (le_of_lt T0.small)) (lit≤ tt) in
    let n : Near 1 d (pos_units a + neg_units t) (neg_units a + pos_units t) (2 ^ 1028) =
    near_sub 8 (near_self a w.fit w.fin) (near_self t T0.fit T0.fin) (lit≤ tt) s in
    let small : apart a t ≤ 2 ^ 1082 = le_trans (apart-le a t) (le_of_lt s) in
    let g : mag_units d ≤ 2 ^ 1082 + 2 ^ 1028 = one_more (mag_units d) (apart a t) (2 ^ 1028) (2 ^ 1082) (near_mag-plain n) small in
    let top : (2 ^ 1082 + 2 ^ 1028) * (2 ^ 1082 + 2 ^ 1028) < 2 ^ 1092 * U = lit≤ tt in
    let r = near-square 18 n (lit≤ tt) (lt_of_le_of_lt (mul-le-mul g g) top) in
    let e : 2 ^ 1028 * (apart a t + apart a t + 2 ^ 1028) ≤ 2 ^ 1028 * (2 ^ 1082 + 2 ^ 1082 + 2 ^ 1028) =
    mul-le-mul_left (2 ^ 1028) (two-more (apart a t) (2 ^ 1028) (2 ^ 1082) small) in
    let all : 2 ^ 1028 * (2 ^ 1082 + 2 ^ 1082 + 2 ^ 1028) + half_ulp 18 * U ≤ ET = lit≤ tt in
    let is : apart a t ≡ coord_gap v t = ap₂ (λ (x y : ℕ). gap (x + neg_units t) (y + pos_units t)) w.pos_is w.neg_is in
    let r' = near-more ET r (le_trans (add-le-add e (le_refl (half_ulp 18 * U))) all) in
    let small' : coord_gap v t ≤ 2 ^ 1082 = subst (λ (x : ℕ). x ≤ 2 ^ 1082) is small in
    record { near = subst (λ (x : ℕ). Near U (sq_to v t) (x * x) 0 ET) is r'; top = le_trans (mul-le-mul small' small') (lit≤ tt) }
  where
    le_pred : {a : ℕ} → a < 128 → a ≤ 127
    le_pred h = omega arith

    one_more : (g d h c : ℕ) → g ≤ d + h → d ≤ c → g ≤ c + h
    one_more g d h c x y = omega arith

    two-more : (d g c : ℕ) → d ≤ c → d + d + g ≤ c + c + g
    two-more d g c h = omega arith

-- ---- a section's distance summed afresh
module _ (v : ℕ → ℤ) (ts : List Float) (V0 : (j : ℕ) → j < 8 → nat_abs (v j) < 128) (T0 : (j : ℕ) → j < 8 → Target (t_at ts j)) where
  abbrev sum_v : ℕ → ℕ
  sum_v n = sum_to (λ j. sq_v (v j) (t_at ts j)) n

  pub sum_top : (n : ℕ) → n ≤ 8 → sum_v n ≤ n * TopT
  unfolding sum_to
  sum_top zero h = zero-le
  sum_top (suc n) h = go (sum_v n) (sq_v (v n) (t_at ts n)) n TopT (sum_top n (omega arith)) (term (v n) (t_at ts n) (V0 n h) (T0 n h)).top
    where
      go : (a b n t : ℕ) → a ≤ n * t → b ≤ t → a + b ≤ suc n * t
      go a b n t x y = let e = suc-mul n t in omega arith

  pub near_dist : (n : ℕ) → n ≤ 8 → Near U (dist_to v ts n) (sum_v n) 0 (n * (ET + H))
  unfolding dist_to sum_to
  near_dist zero h = near_zero U
  near_dist (suc n) h =
      let t = term (v n) (t_at ts n) (V0 n h) (T0 n h) in
      let s = sum_top n (omega arith) in
      let r = near-plus (near_dist n (omega arith)) t.near
      (lt_of_le_of_lt (room (sum_v n) (sq_v (v n) (t_at ts n)) n TopT ET H (omega arith) s t.top) (lit≤ tt)) in
      near-more (suc n * (ET + H)) r (le_of_eq (add_e n (ET + H) ET H refl))
    where
      le7 : (n m : ℕ) → n ≤ 8 → n * m ≤ 8 * m
      le7 n m h = mul-le-mul_right m h

      room : (a b n t e h : ℕ) → n ≤ 8 → a ≤ n * t → b ≤ t → a + 0 + n * (e + h) + (b + 0 + e) ≤ 8 * t + 8 * (e + h) + (t + e)
      room a b n t e h l x y = let p = le7 n t l in let q = le7 n (e + h) l in omega arith

      add_e : (n w e h : ℕ) → w ≡ e + h → n * w + e + h ≡ suc n * w
      add_e n w e h q = let a = suc-mul n w in omega arith

-- ---- candidates
pub record Cand (ts : List Float) (p c : ℕ) (k : ℕ → ℤ) (cost key : ℕ) (dist : Float) (e : ℕ) : Type 0 where
  pub small : (j : ℕ) → j < 8 → nat_abs (k j) < 31
  pub shape : Shape p c k cost key
  pub near : Near U dist (sum_to (λ j. sq_v (member (o_at p c j) (k j)) (t_at ts j)) 8) 0 e

pub member-small : (o : ℕ) (k : ℤ) → o < 4 → nat_abs k < 31 → nat_abs (member o k) < 128
member-small o k h l = let a = member-abs o k in omega arith

module _ (ts : List Float) (p c r : ℕ) (P0 : p < 2) (T0 : (j : ℕ) → j < 8 → Target (t_at ts j)) (b : Closed) (B0 : b.cost ≤ 96) where
  pub cand-stands : (k : ℕ → ℤ) (cost key : ℕ) (dist : Float) (e : ℕ) → e ≤ ES → Cand ts p c k cost key dist e → par_k k 8 ≡ r
      → holds b cost key ≡ true → Stands p c r ts key dist
  cand-stands k cost key dist e E0 C q h =
      record {
        sec = record { k = k; at = at; class = q };
        near = near-more ES (subst (λ (z : ℕ). Near U dist z 0 e) (sym same) C.near) E0;
        room = le_trans (le_of_eq same)
            (le_trans (sum_top (λ j. member (o_at p c j) (k j)) ts
            (λ j l. member-small (o_at p c j) (k j) (o_lt p c j P0) (C.small j l)) T0 8 (le_refl 8)) (lit≤ tt));
      }
    where
      at : (j : ℕ) → j < 8 → section_at p c key j ≡ member (o_at p c j) (k j)
      at = shape_at p c P0 b B0 k cost key C.shape h

      same : dist8 (section_at p c key) ts ≡ sum_to (λ j. sq_v (member (o_at p c j) (k j)) (t_at ts j)) 8
      same = sum_same (λ j. sq_v (section_at p c key j) (t_at ts j)) (λ j. sq_v (member (o_at p c j) (k j)) (t_at ts j)) 8
          (λ j l. ap (λ (z : ℤ). sq_v z (t_at ts j)) (at j l))
