-- One rounding record at shrink 1: the rounding is within 2 of the target, the step goes toward it, the regret is a quarter of the distance;
-- all but for 2 ^ -44.
use Rattle.std.specs.Prelude.{◌≡◌, refl, ◌⊎◌, Bool, true, false, cond, ℕ, ◌+◌, ◌*◌, ◌^◌, ◌≤◌, ◌<◌, T, ℤ, pos, negsuc, nat_abs, ◌+ℤ◌, Float}
use Rattle.std.proofs.Common.{sym, ap, ap₂, ◌∙◌, inl, inr, le_refl, le_trans, le_of_eq, le_of_lt, lt_of_lt_of_le, lt_of_le_of_lt, add-le-add, mul-le-mul_right, add-mul, mul_assoc, zero-mul, lt_of_mul-lt-mul_right, arith, lit≤}
use Rattle.std.proofs.Math.Path.{subst}
use Rattle.std.proofs.Math.Nat.{add-lt-add_of_lt_of_le}
use Rattle.std.specs.Float.{fin}
use Rattle.std.specs.Float.Ieee.{binary64, fits, sub, div, lt, of_int}
use Rattle.std.specs.Float.Ieee.Scale.{finite}
use Rattle.float.specs.Value.{mag_units, pos_units, neg_units, U, four64, one64}
use Rattle.float.specs.Laws.Near.{Near, near_self, near_mag-plain, near_mag}
use Rattle.float.specs.Laws.Arithmetic.{near_sub, near_quarter}
use Rattle.laws.specs.Words.{gap, pos_part, neg_part}
use Rattle.float.specs.Laws.Exact.{IsWhole, of_int_whole, mag_parts, mul_one_is}
use Rattle.float.specs.Calls.{abs_of, round_away, clamped, rounded}
use Rattle.float.specs.Laws.Rounding.{near_regret, round-close, clamped-small, rounded-small}
use Rattle.float.specs.Laws.Compare.{lt_is, not-lt_is, Less, AtMost}
use Rattle.search.specs.declared.Coord.{Coord}
use Rattle.search.specs.Record.{coord_of, coord_from, slot_k}
use Rattle.search.specs.Base.{toward_of}
use Rattle.nearest.specs.Laws.Ints.{gap_k, gap_swap, add_parts, abs-parts, one_part}

-- the error of a rounding record, in units
abbrev pub E1 : ℕ
E1 = 2 ^ 1030

-- a target below 32
pub record Target (t : Float) : Type 0 where
  pub fit : T (fits binary64 t)
  pub fin : T (finite t)
  pub small : mag_units t < 2 ^ 1079

pub record Rounds (t : Float) (o : ℕ) (c : Coord) : Type 0 where
  pub close : gap_k o c.k0 t ≤ 2 * U + E1
  pub toward : gap_k o (slot_k c.k0 (toward_of c.dir)) t + gap_k o c.k0 t ≤ 4 * U + E1
  pub regret : Near 4 c.regret (gap_k o c.k0 t) 0 E1
  pub small : nat_abs c.k0 < 16

-- the size of a whole number as a double
pub int_mg : (k : ℤ) (m : ℕ) → nat_abs k ≤ m → m < 2 ^ 53 → mag_units (of_int binary64 k) ≤ m * U
int_mg k m h l =
    let w = of_int_whole k (lt_of_le_of_lt h l) in
    le_trans (le_of_eq (mag_parts (of_int binary64 k) ∙ ap₂ (λ (a b : ℕ). a + b) w.pos_is w.neg_is ∙ sym (add-mul (pos_part k) (neg_part k) U)))
    (mul-le-mul_right U (le_trans (le_of_eq (sym (abs-parts k))) h))

-- k is within 16 of zero, by its distance from a target below 32
k_small : (pk nk p n u e : ℕ) → p + n ≤ 35 * u → e ≤ u → p + nk * u * 4 ≤ pk * u * 4 + n + (2 * u + e)
    → pk * u * 4 + n ≤ p + nk * u * 4 + (2 * u + e) → (pk ≡ 0) ⊎ (nk ≡ 0) → (pk + nk) * u ≤ 10 * u
k_small pk nk p n u e s l a b (inl z) =
    let q : pk * u ≡ 0 = ap (λ (z : ℕ). z * u) z ∙ zero-mul u in
    let r : (pk + nk) * u ≡ pk * u + nk * u = add-mul pk nk u in
    omega arith
k_small pk nk p n u e s l a b (inr z) =
    let q : nk * u ≡ 0 = ap (λ (z : ℕ). z * u) z ∙ zero-mul u in
    let r : (pk + nk) * u ≡ pk * u + nk * u = add-mul pk nk u in
    omega arith

-- the distance by k in the other arrangement: t - o - 4 k
gap_back : (o : ℕ) (k : ℤ) (t : Float) → gap (pos_units t + 0 + neg_part k * U * 4) (neg_units t + o * U + pos_part k * U * 4) ≡ gap_k o k t
gap_back o k t = go o (pos_part k) (neg_part k) U (pos_units t) (neg_units t)
  where
    go : (o pk nk u x y : ℕ) → gap (x + 0 + nk * u * 4) (y + o * u + pk * u * 4) ≡ gap ((o + 4 * pk) * u + y) (4 * nk * u + x)
    go o pk nk u x y =
        let a : (o + 4 * pk) * u ≡ o * u + 4 * pk * u = add-mul o (4 * pk) u in
        let b : 4 * pk * u ≡ 4 * (pk * u) = mul_assoc 4 pk u in
        let c : 4 * nk * u ≡ 4 * (nk * u) = mul_assoc 4 nk u in
        gap_swap (x + 0 + nk * u * 4) (y + o * u + pk * u * 4) ((o + 4 * pk) * u + y) (4 * nk * u + x) (omega arith)

fold_e : (u e m : ℕ) → e + e ≤ m → 4 * u + (e + e) ≤ 4 * u + m
fold_e u e m h = omega arith

module _ (t : Float) (o : ℕ) (T0 : Target t) (O0 : o < 4) where
  abbrev pub o_f : Float
  o_f = of_int binary64 (pos o)

  o_whole : IsWhole o_f (pos o)
  o_whole = of_int_whole (pos o) (lt_of_lt_of_le O0 (lit≤ tt))

  o_mg : mag_units o_f ≤ 3 * U
  o_mg = int_mg (pos o) 3 (omega arith) (lit≤ tt)

  room1 : mag_units t + mag_units o_f < 2 ^ 1080
  room1 = lt_of_lt_of_le (add-lt-add_of_lt_of_le T0.small o_mg) (lit≤ tt)

  abbrev pub d_f : Float
  d_f = sub binary64 t o_f

  d_near : Near 1 d_f (pos_units t + neg_units o_f) (neg_units t + pos_units o_f) (2 ^ 1026)
  d_near = near_sub 6 (near_self t T0.fit T0.fin) (near_self o_f o_whole.fit o_whole.fin) (lit≤ tt) room1

  -- |t - o| in units
  span : (pos_units t + neg_units o_f) + (neg_units t + pos_units o_f) ≤ 35 * U
  span = le_trans (le_of_eq (regroup (pos_units t) (neg_units o_f) (neg_units t) (pos_units o_f) (mag_units t) (mag_units o_f) (mag_parts t)
      (mag_parts o_f))) (le_trans (le_of_lt
      (lt_of_lt_of_le (add-lt-add_of_lt_of_le T0.small o_mg) (le_refl (2 ^ 1079 + 3 * U)))) (lit≤ tt))
    where
      regroup : (a b c d g h : ℕ) → g ≡ a + c → h ≡ d + b → a + b + (c + d) ≡ g + h
      regroup a b c d g h x y = omega arith

  gap_span : (p n m : ℕ) → p + n ≤ m → gap p n ≤ m
  gap_span p n m h = omega arith

  d_mg : mag_units d_f < 2 ^ 1080 * 4
  d_mg = lt_of_le_of_lt (le_trans (near_mag-plain d_near)
      (add-le (gap (pos_units t + neg_units o_f) (neg_units t + pos_units o_f)) (2 ^ 1026) (35 * U) (gap_span _ _ (35 * U) span))) (lit≤ tt)
    where
      add-le : (a b c : ℕ) → a ≤ c → a + b ≤ c + b
      add-le a b c h = omega arith

  abbrev pub z_f : Float
  z_f = div binary64 d_f four64

  z_near : Near 4 z_f (pos_units t + neg_units o_f) (neg_units t + pos_units o_f) (2 ^ 1026 + 2 ^ 1026 * 4)
  z_near = near_quarter 6 d_near (lit≤ tt) d_mg

  abbrev pub k_z : ℤ
  k_z = round_away z_f

  -- the same with the parts of o
  z_near' : Near 4 z_f (pos_units t + 0) (neg_units t + o * U) (2 ^ 1026 + 2 ^ 1026 * 4)
  z_near' = subst (λ (a : ℕ). Near 4 z_f (pos_units t + a) (neg_units t + o * U) (2 ^ 1026 + 2 ^ 1026 * 4)) (o_whole.neg_is ∙ zero-mul U)
      (subst (λ (a : ℕ). Near 4 z_f (pos_units t + neg_units o_f) (neg_units t + a) (2 ^ 1026 + 2 ^ 1026 * 4)) o_whole.pos_is z_near)

  abbrev e5 : ℕ
  e5 = 2 ^ 1026 + 2 ^ 1026 * 4

  span' : (pos_units t + 0) + (neg_units t + o * U) ≤ 35 * U
  span' = subst (λ (a : ℕ). (pos_units t + a) + (neg_units t + o * U) ≤ 35 * U) (o_whole.neg_is ∙ zero-mul U)
      (subst (λ (a : ℕ). (pos_units t + neg_units o_f) + (neg_units t + a) ≤ 35 * U) o_whole.pos_is span)

  k-abs : nat_abs k_z < 16
  k-abs = let w = round-close z_near' in
      lt_of_mul-lt-mul_right U (lt_of_le_of_lt
      (le_trans (le_of_eq (ap (λ (z : ℕ). z * U) (abs-parts k_z)))
      (k_small (pos_part k_z) (neg_part k_z) (pos_units t + 0) (neg_units t + o * U) U e5 span' (lit≤ tt) w.0 w.1 (one_part k_z))) (lit≤ tt))

  abbrev k_f : Float
  k_f = of_int binary64 k_z

  k_whole : IsWhole k_f k_z
  k_whole = of_int_whole k_z (lt_of_lt_of_le k-abs (lit≤ tt))

  close_of : gap_k o k_z t ≤ 2 * U + e5
  close_of = let w = round-close z_near' in
      le_trans (le_of_eq (sym (gap_back o k_z t)))
      (bounded (pos_units t + 0) (neg_units t + o * U) (neg_part k_z * U * 4) (pos_part k_z * U * 4) (2 * U + e5) w.0 w.1)
    where
      bounded : (p n a b m : ℕ) → p + a ≤ b + n + m → b + n ≤ p + a + m → gap (p + a) (n + b) ≤ m
      bounded p n a b m h k = omega arith

  z_mg : mag_units z_f + mag_units k_f < 2 ^ 1080
  z_mg =
      let c : mag_units z_f * 4 ≤ gap (pos_units t + 0) (neg_units t + o * U) + e5 = near_mag z_near' in
      lt_of_le_of_lt (sum_le2 (mag_units z_f) (mag_units k_f) (gap (pos_units t + 0) (neg_units t + o * U)) e5 (35 * U) (15 * U) c
      (gap_span _ _ (35 * U) span') (int_mg k_z 15 (pred-le k-abs) (lit≤ tt))) (lit≤ tt)
    where
      pred-le : {a : ℕ} → a < 16 → a ≤ 15
      pred-le h = omega arith

      sum_le2 : (z k g e m n : ℕ) → z * 4 ≤ g + e → g ≤ m → k ≤ n → z + k ≤ m + e + n
      sum_le2 z k g e m n h i j = omega arith

  regret_of : Near 4 (abs_of (sub binary64 z_f k_f)) (gap_k o k_z t) 0 E1
  regret_of =
      subst (λ (g : ℕ). Near 4 (abs_of (sub binary64 z_f k_f)) g 0 E1)
      (ap₂ (λ (a b : ℕ). gap (pos_units t + a + neg_units k_f * 4) (neg_units t + b + pos_units k_f * 4)) (o_whole.neg_is ∙ zero-mul U) o_whole.pos_is
      ∙ ap₂ (λ (a b : ℕ). gap (pos_units t + 0 + a * 4) (neg_units t + o * U + b * 4)) k_whole.neg_is k_whole.pos_is ∙ gap_back o k_z t)
      (near_regret t o_f k_f T0.fit o_whole.fit k_whole.fit T0.fin o_whole.fin k_whole.fin room1 d_mg z_mg)

  -- the step toward the target
  toward_of_lem : (b : Bool) → lt k_f z_f ≡ b → gap_k o (slot_k k_z (toward_of (cond b (pos 1) (negsuc 0)))) t + gap_k o k_z t ≤ 4 * U + E1
  toward_of_lem true h =
      let l : Less k_f z_f = lt_is k_f z_f k_whole.fit z_near.fit k_whole.fin z_near.fin (subst T (sym h) tt) in
      let k1 = k_z +ℤ pos 1 in
      le_trans (le_of_eq (ap₂ (λ (a b : ℕ). a + b) (sym (gap_back o k1 t)) (sym (gap_back o k_z t))))
      (le_trans (up (pos_units t + 0) (neg_units t + o * U) (pos_part k_z * U * 4) (neg_part k_z * U * 4) (pos_part k1 * U * 4) (neg_part k1 * U * 4) U e5
      (times (pos_part k1) (neg_part k_z) (pos_part k_z) (neg_part k1) U (add_parts k_z (pos 1)))
      (below (pos_units k_f) (neg_units k_f) (pos_units z_f) (neg_units z_f) (pos_part k_z * U) (neg_part k_z * U) (pos_units t + 0)
      (neg_units t + o * U) e5 k_whole.pos_is k_whole.neg_is l z_near'.hi)
      (le_trans (le_of_eq (gap_back o k_z t)) close_of)) (fold_e U e5 E1 (lit≤ tt)))
    where
      below : (a b c d x y p n e : ℕ) → a ≡ x → b ≡ y → a + d < c + b → c * 4 + n ≤ p + d * 4 + e → n + x * 4 ≤ p + y * 4 + e
      below a b c d x y p n e i j h k = omega arith

      times : (p1 n p n1 u : ℕ) → p1 + (n + 0) ≡ p + 1 + n1 → p1 * u * 4 + n * u * 4 ≡ p * u * 4 + 4 * u + n1 * u * 4
      times p1 n p n1 u h =
          let a : (p1 + n) * u ≡ (p + 1 + n1) * u = ap (λ (z : ℕ). z * u) (tidy h) in
          let b : (p1 + n) * u ≡ p1 * u + n * u = add-mul p1 n u in
          let c : (p + 1 + n1) * u ≡ p * u + 1 * u + n1 * u = add-mul (p + 1) n1 u ∙ ap (λ (z : ℕ). z + n1 * u) (add-mul p 1 u) in
          omega arith
        where
          tidy : p1 + (n + 0) ≡ p + 1 + n1 → p1 + n ≡ p + 1 + n1
          tidy h = omega arith

      up : (p n a b a1 b1 u e : ℕ) → a1 + b ≡ a + 4 * u + b1 → n + a ≤ p + b + e → gap (p + b) (n + a) ≤ 2 * u + e
          → gap (p + b1) (n + a1) + gap (p + b) (n + a) ≤ 4 * u + (e + e)
      up p n a b a1 b1 u e h k l = omega arith
  toward_of_lem false h =
      let l : AtMost z_f k_f = not-lt_is k_f z_f k_whole.fit z_near.fit k_whole.fin z_near.fin h in
      let k1 = k_z +ℤ negsuc 0 in
      le_trans (le_of_eq (ap₂ (λ (a b : ℕ). a + b) (sym (gap_back o k1 t)) (sym (gap_back o k_z t))))
      (le_trans (down (pos_units t + 0) (neg_units t + o * U) (pos_part k_z * U * 4) (neg_part k_z * U * 4) (pos_part k1 * U * 4) (neg_part k1 * U * 4) U e5
      (times (pos_part k1) (neg_part k_z) (pos_part k_z) (neg_part k1) U (add_parts k_z (negsuc 0)))
      (above (pos_units k_f) (neg_units k_f) (pos_units z_f) (neg_units z_f) (pos_part k_z * U) (neg_part k_z * U) (pos_units t + 0)
      (neg_units t + o * U) e5 k_whole.pos_is k_whole.neg_is l z_near'.lo)
      (le_trans (le_of_eq (gap_back o k_z t)) close_of)) (fold_e U e5 E1 (lit≤ tt)))
    where
      above : (a b c d x y p n e : ℕ) → a ≡ x → b ≡ y → c + b ≤ a + d → p + d * 4 ≤ c * 4 + n + e → p + y * 4 ≤ n + x * 4 + e
      above a b c d x y p n e i j h k = omega arith

      times : (p1 n p n1 u : ℕ) → p1 + (n + 1) ≡ p + 0 + n1 → p1 * u * 4 + n * u * 4 + 4 * u ≡ p * u * 4 + n1 * u * 4
      times p1 n p n1 u h =
          let a : (p1 + n + 1) * u ≡ (p + n1) * u = ap (λ (z : ℕ). z * u) (tidy h) in
          let b : (p1 + n + 1) * u ≡ p1 * u + n * u + 1 * u = add-mul (p1 + n) 1 u ∙ ap (λ (z : ℕ). z + 1 * u) (add-mul p1 n u) in
          let c : (p + n1) * u ≡ p * u + n1 * u = add-mul p n1 u in
          omega arith
        where
          tidy : p1 + (n + 1) ≡ p + 0 + n1 → p1 + n + 1 ≡ p + n1
          tidy h = omega arith

      down : (p n a b a1 b1 u e : ℕ) → a1 + b + 4 * u ≡ a + b1 → p + b ≤ n + a + e → gap (p + b) (n + a) ≤ 2 * u + e
          → gap (p + b1) (n + a1) + gap (p + b) (n + a) ≤ 4 * u + (e + e)
      down p n a b a1 b1 u e h k l = omega arith

  rounds_from : Rounds t o (coord_from t o z_f k_z)
  rounds_from = record {
    close = le_trans close_of (add-le-add {c = e5} {d = E1} (le_refl (2 * U)) (lit≤ tt));
    toward = toward_of_lem (lt k_f z_f) refl;
    regret = regret_of;
    small = k-abs;
  }

  -- the clamp changes nothing
  z_small : mag_units z_f ≤ 1000000 * U
  z_small =
      le_trans (quarter (mag_units z_f) (gap (pos_units t + 0) (neg_units t + o * U)) e5 (35 * U) (near_mag z_near')
      (gap_span _ _ (35 * U) span')) (lit≤ tt)
    where
      quarter : (z g e m : ℕ) → z * 4 ≤ g + e → g ≤ m → z ≤ m + e
      quarter z g e m h k = omega arith

  k_is : rounded z_f ≡ k_z
  k_is = rounded-small z_f z_near.fit z_near.fin z_small

  pub rounded-lt : nat_abs (rounded z_f) < 16
  rounded-lt = subst (λ (k : ℤ). nat_abs k < 16) (sym k_is) k-abs

  rounds-clamped : Rounds t o (coord_from t o (clamped z_f) (rounded z_f))
  rounds-clamped =
      subst (λ (z : Float). Rounds t o (coord_from t o z (rounded z_f))) (sym (clamped-small z_f z_near.fit z_near.fin z_small))
      (subst (λ (k : ℤ). Rounds t o (coord_from t o z_f k)) (sym k_is) rounds_from)

  -- the record at shrink 1
  pub rounds : Rounds t o (coord_of t one64 o)
  unfolding coord_of
  rounds =
      subst
      (λ (x : Float).
      Rounds t o (coord_from t o (clamped (div binary64 (sub binary64 x o_f) four64)) (rounded (div binary64 (sub binary64 x o_f) four64))))
      (sym (mul_one_is t T0.fit T0.fin)) rounds-clamped
