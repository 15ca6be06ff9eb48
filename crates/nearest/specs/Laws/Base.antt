-- The base of a pattern and class at shrink 1 is the nearest section of that pattern and class, but for 2 ^ -36.
use Rattle.std.specs.Prelude.{◌≡◌, List, ◌≢◌, Bool, true, false, cond, T, eqb, get_or, ℤ, Float}
use Rattle.std.proofs.Math.Path.{refl, ap, subst}
use Rattle.std.proofs.Common.{sym, ◌∙◌, le_refl, le_of_eq, le_of_lt, mul-le-mul_left, mul-add, le-add_right, sub-add_cancel, sub-le, add-le-add, eq-eqb, eqb→eq, lit≤}
use Prim.Native.Nat.{ℕ, zero, suc, ◌+◌, ◌-◌, ◌*◌, ◌%◌, ◌^◌, ◌≤◌, ◌<◌}
use Rattle.std.proofs.Math.Nat.{le_trans}
use native.Mathlib.Omega.{arith}
use Rattle.std.proofs.Math.Decide.{ℕ_discrete}
use Rattle.std.proofs.Math.IntN.{ℤ_discrete, +ℤ_idr}
use Rattle.std.specs.Float.{nan}
use Rattle.std.specs.Float.Ieee.{lt}
use Rattle.float.specs.Value.{pos_units, neg_units, U}
use Rattle.float.specs.Laws.Near.{Near}
use Rattle.float.specs.Laws.Compare.{lt_is, not-lt_is, Less, AtMost}
use Rattle.float.specs.Laws.Rounding.{round-best}
use Rattle.search.specs.declared.Coord.{Coord}
use Rattle.search.specs.Record.{coord_at, slot_k, row, shrinks}
use Rattle.search.specs.Base.{slot_of, toward_of, par_to, worst_to}
use Rattle.nearest.specs.Laws.Forms.{odd_k, sum_to, par_k}
use Rattle.nearest.specs.Laws.Sums.{strong, stepped_up, sum-le, sum_same, sum_set, odd-le}
use Rattle.nearest.specs.Laws.Ints.{gap_k, far}
use Rattle.nearest.specs.Laws.Coordinate.{Target, Rounds, E1, rounds}
use Rattle.nearest.specs.Laws.Shape.{o_at, o_lt, row_at, slot_at, slot_off, slot-plain}
use Rattle.laws.specs.Laws.Order.{lt-other, sub-below}

-- |t - o - 4 k| squared
abbrev pub sq_k : ℕ → ℤ → Float → ℕ
sq_k o k t = gap_k o k t * gap_k o k t

abbrev pub W3 : ℕ
W3 = 2 ^ 2112

-- the whole numbers behind a worse section of the other parity, over variables
repair : (base own other g0 g1 u4 G w e h : ℕ) → base + g0 * g0 ≡ own + g1 * g1 → g1 * g1 + 2 * (u4 * g0) ≤ g0 * g0 + u4 * u4 + (2 * (e * h) + e * e)
    → own + u4 * u4 ≤ other + 2 * (u4 * (g0 + (e + e))) + w → base ≤ other + (4 * (u4 * e) + w + (2 * (e * h) + e * e))
repair base own other g0 g1 u4 G w e h a b c =
    let d : u4 * (g0 + (e + e)) ≡ u4 * g0 + (u4 * e + u4 * e) = mul-add u4 g0 (e + e) ∙ ap (λ (z : ℕ). u4 * g0 + z) (mul-add u4 e e) in
    omega arith

-- the coordinate of largest regret is one of those seen
pub worst-lt : (e : List Coord) (n : ℕ) → n ≤ 8 → worst_to e n < 8
unfolding worst_to
worst-lt e zero h = omega arith
worst-lt e (suc n) h = go (lt (coord_at e (worst_to e n)).regret (coord_at e n).regret) (worst-lt e n (omega arith))
  where
    go : (b : Bool) → worst_to e n < 8 → cond b n (worst_to e n) < 8
    go true k = h
    go false k = k

-- the parity of the roundings
pub par_is : (e : List Coord) (n : ℕ) → par_to e n ≡ par_k (λ j. (coord_at e j).k0) n
unfolding par_to sum_to
par_is e zero = refl
par_is e (suc n) = go (par_to e n) (sum_to (λ j. odd_k (coord_at e j).k0) n) (odd_k (coord_at e n).k0) (par_is e n)
  where
    go : (a b x : ℕ) → a ≡ b % 2 → (a + x) % 2 ≡ (b + x) % 2
    go a b x h = omega arith

module _ (ts : List Float) (p c : ℕ) (P0 : p < 2) (T0 : (j : ℕ) → j < 8 → Target (get_or ts j nan)) where
  abbrev t_j : ℕ → Float
  t_j j = get_or ts j nan

  abbrev o_j : ℕ → ℕ
  o_j = o_at p c

  abbrev e_r : List Coord
  e_r = row ts p c 0

  abbrev k_j : ℕ → ℤ
  k_j j = (coord_at e_r j).k0

  pub facts : (j : ℕ) → j < 8 → Rounds (t_j j) (o_j j) (coord_at e_r j)
  unfolding shrinks
  facts j h = subst (Rounds (t_j j) (o_j j)) (sym (row_at ts p c 0 j h)) (rounds (t_j j) (o_j j) (T0 j h) (o_lt p c j P0))

  -- distances of the roundings
  abbrev g0 : ℕ → ℕ
  g0 j = gap_k (o_j j) (k_j j) (t_j j)

  abbrev reg : ℕ → Float
  reg j = (coord_at e_r j).regret

  -- the largest regret is no smaller than any
  worst_most : (n : ℕ) → n ≤ 8 → (j : ℕ) → j < n → AtMost (reg j) (reg (worst_to e_r n))
  unfolding worst_to
  worst_most zero h j l = absurd (omega arith)
  worst_most (suc n) h j l = go (worst_most n (omega arith) j) (ℕ_discrete n j) (lt (reg w) (reg n)) refl
    where
      w : ℕ
      w = worst_to e_r n

      w8 : worst_to e_r n < 8
      w8 = worst-lt e_r n (omega arith)

      fw : Near 4 (reg (worst_to e_r n)) (g0 (worst_to e_r n)) 0 E1
      fw = (facts (worst_to e_r n) w8).regret

      fn : Near 4 (reg n) (g0 n) 0 E1
      fn = (facts n h).regret

      trans : (x y z : Float) → AtMost x y → AtMost y z → AtMost x z
      trans x y z a b = omega arith

      same : (x : Float) → AtMost x x
      same x = le_refl (pos_units x + neg_units x)

      weak : (x y : Float) → Less x y → AtMost x y
      weak x y a = le_of_lt a

      go : (j < n → AtMost (reg j) (reg (worst_to e_r n))) → Dec (n ≡ j) → (b : Bool) → lt (reg (worst_to e_r n)) (reg n) ≡ b
          → AtMost (reg j) (reg (cond b n (worst_to e_r n)))
      go r (yes e) true q = subst (λ (i : ℕ). AtMost (reg i) (reg n)) e (same (reg n))
      go r (yes e) false q = subst (λ (i : ℕ). AtMost (reg i) (reg (worst_to e_r n))) e
          (not-lt_is (reg (worst_to e_r n)) (reg n) fw.fit fn.fit fw.fin fn.fin q)
      go r (no d) true q = trans (reg j) (reg (worst_to e_r n)) (reg n) (r (lt-other d l))
          (weak (reg (worst_to e_r n)) (reg n) (lt_is (reg (worst_to e_r n)) (reg n) fw.fit fn.fit fw.fin fn.fin (subst T (sym q) tt)))
      go r (no d) false q = r (lt-other d l)

  abbrev j_w : ℕ
  j_w = worst_to e_r 8

  worst_gap : (j : ℕ) → j < 8 → g0 j ≤ g0 j_w + (E1 + E1)
  worst_gap j h =
      let a = (facts j h).regret in
      let b = (facts j_w (worst-lt e_r 8 (le_refl 8))).regret in
      go (pos_units (reg j)) (neg_units (reg j)) (pos_units (reg j_w)) (neg_units (reg j_w)) (g0 j) (g0 j_w) E1 a.lo b.hi
      (worst_most 8 (le_refl 8) j h)
    where
      go : (pj mj pw mw x y e : ℕ) → x + mj * 4 ≤ pj * 4 + 0 + e → pw * 4 + 0 ≤ y + mw * 4 + e → pj + mw ≤ pw + mj → x ≤ y + (e + e)
      go pj mj pw mw x y e h k l = omega arith

  -- one coordinate: no other whole number is nearer by more than the error
  w_k : ℕ
  w_k = (E1 + E1) * (4 * U + 2 * E1)

  plain_one : (k : ℕ → ℤ) (j : ℕ) → j < 8 → sq_k (o_j j) (k_j j) (t_j j) ≤ sq_k (o_j j) (k j) (t_j j) + w_k
  unfolding w_k
  plain_one k j h = go (ℤ_discrete (k j) (k_j j))
    where
      go : Dec (k j ≡ k_j j) → sq_k (o_j j) (k_j j) (t_j j) ≤ sq_k (o_j j) (k j) (t_j j) + w_k
      go (yes e) = subst (λ (z : ℤ). sq_k (o_j j) (k_j j) (t_j j) ≤ sq_k (o_j j) z (t_j j) + w_k) (sym e) (le-add_right (sq_k (o_j j) (k_j j) (t_j j)) w_k)
      go (no d) = round-best (g0 j) (gap_k (o_j j) (k j) (t_j j)) U E1 (facts j h).close (far (o_j j) (k j) (k_j j) (t_j j) d)

  strong_one : (k : ℕ → ℤ) (j : ℕ) → j < 8 → k_j j ≢ k j
      → sq_k (o_j j) (k_j j) (t_j j) + 4 * U * (4 * U) ≤ sq_k (o_j j) (k j) (t_j j) + 2 * (4 * U * (g0 j_w + (E1 + E1)))
  strong_one k j h d =
      let a = (facts j h).close in
      let f = far (o_j j) (k j) (k_j j) (t_j j) (λ (e : k j ≡ k_j j). d (sym e)) in
      let s = strong (4 * U - g0 j) (g0 j) (gap_k (o_j j) (k j) (t_j j)) (4 * U) (sym (sub-add_cancel (le_trans a (lit≤ tt))))
      (sub-below (4 * U) (g0 j) (gap_k (o_j j) (k j) (t_j j)) f) in
      le_trans s (twice (sq_k (o_j j) (k j) (t_j j)) (4 * U * g0 j) (4 * U * (g0 j_w + (E1 + E1))) (mul-le-mul_left (4 * U) (worst_gap j h)))
    where
      twice : (a b c : ℕ) → b ≤ c → a + 2 * b ≤ a + 2 * c
      twice a b c h = omega arith

  -- the base for class r: its slots and its whole numbers
  abbrev fix_r : ℕ → ℕ
  fix_r r = cond (eqb (par_to e_r 8) r) 2 (toward_of (coord_at e_r j_w).dir)

  abbrev pub b_k : ℕ → ℕ → ℤ
  b_k r j = slot_k (k_j j) (slot_of j_w (fix_r r) j)

  abbrev Nearest : ℕ → (ℕ → ℤ) → (ℕ → ℤ) → Type 0
  Nearest w b k = sum_to (λ j. sq_k (o_j j) (b j) (t_j j)) 8 ≤ sum_to (λ j. sq_k (o_j j) (k j) (t_j j)) 8 + w

  base_plain : (k : ℕ → ℤ) → Nearest W3 k_j k
  unfolding w_k
  base_plain k = le_trans (sum-le (λ j. sq_k (o_j j) (k_j j) (t_j j)) (λ j. sq_k (o_j j) (k j) (t_j j)) w_k 8 (plain_one k))
      (add-le-add {c = 8 * w_k} {d = W3} (le_refl (sum_to (λ j. sq_k (o_j j) (k j) (t_j j)) 8)) (lit≤ tt))

  -- the rounding with its least decided coordinate stepped
  abbrev s_k : ℕ → ℤ
  s_k j = slot_k (k_j j) (slot_of j_w (toward_of (coord_at e_r j_w).dir) j)

  stepped-at : s_k j_w ≡ slot_k (k_j j_w) (toward_of (coord_at e_r j_w).dir)
  stepped-at = ap (slot_k (k_j j_w)) (slot_at j_w (toward_of (coord_at e_r j_w).dir))

  stepped_off : (j : ℕ) → j ≢ j_w → s_k j ≡ k_j j
  stepped_off j d = ap (slot_k (k_j j)) (slot_off j_w (toward_of (coord_at e_r j_w).dir) j d) ∙ +ℤ_idr (k_j j)

  abbrev terms : (ℕ → ℤ) → ℕ → ℕ
  terms k j = sq_k (o_j j) (k j) (t_j j)

  base_stepped : (k : ℕ → ℤ) → par_k k_j 8 ≢ par_k k 8 → Nearest W3 s_k k
  unfolding w_k
  base_stepped k d =
      let w8 = worst-lt e_r 8 (le_refl 8) in
      let R = facts j_w w8 in
      let own = terms k_j in
      let oth = terms k in
      let bas = terms s_k in
      let g1 = gap_k (o_j j_w) (slot_k (k_j j_w) (toward_of (coord_at e_r j_w).dir)) (t_j j_w) in
      let a = sum_set bas own j_w 8 w8 (λ j l m. ap (λ (z : ℤ). sq_k (o_j j) z (t_j j)) (stepped_off j m)) in
      let a' : sum_to bas 8 + g0 j_w * g0 j_w ≡ sum_to own 8 + g1 * g1 = a ∙ ap (λ (z : ℤ). sum_to own 8 + sq_k (o_j j_w) z (t_j j_w)) stepped-at in
      let b = stepped_up (4 * U - g0 j_w) (g0 j_w) g1 (4 * U) E1 (sym (sub-add_cancel (le_trans R.close (lit≤ tt))))
      (under (4 * U) (g0 j_w) g1 E1 R.toward) in
      let c = odd-le own oth k_j k w_k (4 * U * (4 * U)) (2 * (4 * U * (g0 j_w + (E1 + E1)))) 8 d (plain_one k) (strong_one k) in
      let r = repair (sum_to bas 8) (sum_to own 8) (sum_to oth 8) (g0 j_w) g1 (4 * U) 0 (8 * w_k) E1 (4 * U - g0 j_w) a' b c in
      le_trans r (more (sum_to oth 8) (4 * (4 * U * E1)) (8 * w_k) (E1 * (4 * U - g0 j_w)) (E1 * (4 * U)) (E1 * E1) W3
      (mul-le-mul_left E1 (sub-le (4 * U) (g0 j_w))) (lit≤ tt))
    where
      under : (u g x e : ℕ) → x + g ≤ u + e → x ≤ u - g + e
      under u g x e h = omega arith

      more : (o a w x y z m : ℕ) → x ≤ y → a + w + (2 * y + z) ≤ m → o + (a + w + (2 * x + z)) ≤ o + m
      more o a w x y z m h k = omega arith

  -- no section of class r is nearer than the base, but for the error
  pub base_best_lem : (r : ℕ) (k : ℕ → ℤ) → par_k k 8 ≡ r → sum_to (λ j. sq_k (o_j j) (b_k r j) (t_j j)) 8 ≤ sum_to (λ j. sq_k (o_j j) (k j) (t_j j)) 8 + W3
  base_best_lem r k h = go (eqb (par_to e_r 8) r) (eqb→eq (par_to e_r 8) r) refl
    where
      off : (j : ℕ) → slot_k (k_j j) (slot_of j_w 2 j) ≡ k_j j
      off j = ap (slot_k (k_j j)) (slot-plain j_w j) ∙ +ℤ_idr (k_j j)

      go : (b : Bool) → (T b → par_to e_r 8 ≡ r) → eqb (par_to e_r 8) r ≡ b
          → sum_to (λ j. sq_k (o_j j) (slot_k (k_j j) (slot_of j_w (cond b 2 (toward_of (coord_at e_r j_w).dir)) j)) (t_j j)) 8
          ≤ sum_to (λ j. sq_k (o_j j) (k j) (t_j j)) 8 + W3
      go true e q = le_trans (le_of_eq
          (sum_same (λ j. sq_k (o_j j) (slot_k (k_j j) (slot_of j_w 2 j)) (t_j j)) (λ j. sq_k (o_j j) (k_j j) (t_j j)) 8
          (λ j l. ap (λ (z : ℤ). sq_k (o_j j) z (t_j j)) (off j)))) (base_plain k)
      go false e q = base_stepped k (λ (x : par_k k_j 8 ≡ par_k k 8). no_eq (par_to e_r 8) r q (par_is e_r 8 ∙ x ∙ h))
        where
          no_eq : (a b : ℕ) → eqb a b ≡ false → a ≢ b
          no_eq a b q e = subst T (sym (eq-eqb a _ e) ∙ q) tt
