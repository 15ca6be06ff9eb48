-- The margin keeps each target coordinate within 4 of y's, and y's rows keep y's within 10; so targets are below 16.
use Rattle.std.specs.Prelude.{◌≡◌, refl, ◌≢◌, ◌⊎◌, Bool, true, false, not, cond, List, ℕ, zero, suc, ◌+◌, ◌*◌, ◌%◌, ◌≤◌, ◌<◌, T, eqb, leb, ltb, ℤ, pos, negsuc, nat_abs, Float}
use Rattle.std.proofs.Common.{sym, ap, ◌∙◌, subst, inl, inr, arith, eq-eqb, ne_eqb, leb→le, ltb→lt, lit≤}
use native.Mathlib.Nat.{le_trans, le_of_eq, lt_of_le_of_lt, mul-le-mul, mul-le-mul_right, add-mul}
use Rattle.std.proofs.Math.Dec.{nleb→lt}
use Rattle.std.proofs.Math.IntN.{suc_ℤ, pred_ℤ}
use Rattle.std.specs.Float.{binary64}
use Rattle.std.specs.Float.Ieee.{fits}
use Rattle.std.specs.Float.Ieee.Scale.{finite}
use Rattle.float.specs.Value.{mag_units, is_minus, pos_units, neg_units, U}
use Rattle.laws.specs.Words.{gap, pos_part, neg_part}
use Rattle.float.specs.Laws.Exact.{parts, mag_parts}
use Rattle.float.specs.Distance.{coord_gap}
use Rattle.rank.specs.Coord.{val_of}
use Rattle.laws.specs.Laws.Tests.{upto, below2}
use Rattle.search.specs.Record.{member}
use Rattle.search.specs.Entries.{rank_at}
use Rattle.search.specs.declared.Closed.{Closed}
use Rattle.nearest.specs.Laws.Forms.{odd_k, sum_to, par_k, RowOf}
use Rattle.nearest.specs.Laws.Sums.{sum_set}
use Rattle.nearest.specs.Laws.Keys.{member_one}
use Rattle.nearest.specs.Laws.Ints.{gap_k, gap_is, odd-suc, odd-pred, abs-parts}
use Rattle.nearest.specs.Laws.Lattice.{Sec, Same, dist8, M}
use Rattle.nearest.specs.Laws.Shape.{o_at, o_lt, ranks-le}
use Rattle.nearest.specs.Laws.Candidate.{t_at, sq_v}
use Rattle.nearest.specs.Laws.Premises.{Target16}

-- two steps keep the parity, and move
abbrev up2 : Bool → ℤ → ℤ
up2 true k = suc_ℤ (suc_ℤ k)
up2 false k = pred_ℤ (pred_ℤ k)

odd-two : (b : Bool) (k : ℤ) → odd_k (up2 b k) ≡ odd_k k
odd-two true k = let a = odd-suc (suc_ℤ k) in let b = odd-suc k in omega arith
odd-two false k = let a = odd-pred (pred_ℤ k) in let b = odd-pred k in omega arith

suc-parts : (k : ℤ) → pos_part (suc_ℤ k) + neg_part k ≡ pos_part k + 1 + neg_part (suc_ℤ k)
suc-parts (pos n) = omega arith
suc-parts (negsuc zero) = refl
suc-parts (negsuc (suc n)) = omega arith

pred-parts : (k : ℤ) → pos_part (pred_ℤ k) + 1 + neg_part k ≡ pos_part k + neg_part (pred_ℤ k)
pred-parts (pos zero) = refl
pred-parts (pos (suc n)) = omega arith
pred-parts (negsuc n) = omega arith

moves : (b : Bool) (k : ℤ) → up2 b k ≢ k
moves true k q = let a = suc-parts (suc_ℤ k) in let b = suc-parts k in
    no (pos_part (suc_ℤ (suc_ℤ k))) (neg_part (suc_ℤ (suc_ℤ k))) (pos_part (suc_ℤ k)) (neg_part (suc_ℤ k)) (pos_part k) (neg_part k) a b (ap pos_part q)
    (ap neg_part q)
  where
    no : (a b c d e f : ℕ) → a + d ≡ c + 1 + b → c + f ≡ e + 1 + d → a ≡ e → b ≡ f → ⊥
    no a b c d e f x y z w = omega arith
moves false k q = let a = pred-parts (pred_ℤ k) in let b = pred-parts k in
    no (pos_part (pred_ℤ (pred_ℤ k))) (neg_part (pred_ℤ (pred_ℤ k))) (pos_part (pred_ℤ k)) (neg_part (pred_ℤ k)) (pos_part k) (neg_part k) a b
    (ap pos_part q) (ap neg_part q)
  where
    no : (a b c d e f : ℕ) → a + 1 + d ≡ c + b → c + 1 + f ≡ e + d → a ≡ e → b ≡ f → ⊥
    no a b c d e f x y z w = omega arith

-- over variables: two steps up or down move o + 4 k by 8
two_up : (k : ℤ) → pos_part (up2 true k) + neg_part k ≡ pos_part k + 2 + neg_part (up2 true k)
two_up k = let x = suc-parts (suc_ℤ k) in let y = suc-parts k in omega arith

two_down : (k : ℤ) → pos_part (up2 false k) + 2 + neg_part k ≡ pos_part k + neg_part (up2 false k)
two_down k = let x = pred-parts (pred_ℤ k) in let y = pred-parts k in omega arith

-- a target at 4 or more from o + 4 k is no further from one of the two
nearer : (o : ℕ) (k : ℤ) (t : Float) → 4 * U ≤ gap_k o k t → (b : Bool) × (gap_k o (up2 b k) t ≤ gap_k o k t)
nearer o k t h = go (leb ((o + 4 * pos_part k) * U + neg_units t) (4 * neg_part k * U + pos_units t)) (leb→le _ _) (nleb→lt _ _)
  where
    times : (p n a b u : ℕ) → p + b ≡ a + 2 + n → (o + 4 * p) * u + 4 * b * u ≡ (o + 4 * a) * u + 8 * u + 4 * n * u
    times p n a b u h =
        let x : (o + 4 * p + 4 * b) * u ≡ (o + 4 * a + 8 + 4 * n) * u = ap (λ (z : ℕ). z * u) (omega arith) in
        let y : (o + 4 * p + 4 * b) * u ≡ (o + 4 * p) * u + 4 * b * u = add-mul (o + 4 * p) (4 * b) u in
        let z : (o + 4 * a + 8 + 4 * n) * u ≡ (o + 4 * a) * u + 8 * u + 4 * n * u = add-mul (o + 4 * a + 8) (4 * n) u
        ∙ ap (λ (z : ℕ). z + 4 * n * u) (add-mul (o + 4 * a) 8 u) in
        sym y ∙ x ∙ z

    up_le : (a b c d u x y : ℕ) → c + b ≡ a + 8 * u + d → a + y ≤ b + x → 4 * u ≤ gap (a + y) (b + x) → gap (c + y) (d + x) ≤ gap (a + y) (b + x)
    up_le a b c d u x y h k l = omega arith

    down_le : (a b c d u x y : ℕ) → a + d ≡ c + 8 * u + b → b + x ≤ a + y → 4 * u ≤ gap (a + y) (b + x) → gap (c + y) (d + x) ≤ gap (a + y) (b + x)
    down_le a b c d u x y h k l = omega arith

    go : (b : Bool) → (T b → (o + 4 * pos_part k) * U + neg_units t ≤ 4 * neg_part k * U + pos_units t)
        → (T (not b) → 4 * neg_part k * U + pos_units t < (o + 4 * pos_part k) * U + neg_units t) → (b : Bool) × (gap_k o (up2 b k) t ≤ gap_k o k t)
    go true f g = (
      true,
      up_le ((o + 4 * pos_part k) * U) (4 * neg_part k * U) ((o + 4 * pos_part (up2 true k)) * U) (4 * neg_part (up2 true k) * U) U (pos_units t)
          (neg_units t)
          (times (pos_part (up2 true k)) (neg_part (up2 true k)) (pos_part k) (neg_part k) U (two_up k)) (f tt) h,
    )
    go false f g = (
      false,
      down_le ((o + 4 * pos_part k) * U) (4 * neg_part k * U) ((o + 4 * pos_part (up2 false k)) * U) (4 * neg_part (up2 false k) * U) U
          (pos_units t) (neg_units t)
          (times (pos_part k) (neg_part k) (pos_part (up2 false k)) (neg_part (up2 false k)) U
          (sym (two_down k)))
          (native.Mathlib.Nat.le_of_lt (g tt)) h,
    )

module _ (ts : List Float) (p c r : ℕ) (P0 : p < 2) (y : ℕ → ℤ) (own : (s : ℕ → ℤ) → Sec p c r s → dist8 s ts ≤ dist8 y ts + M → Same s y)
    (Y : Sec p c r y) where
  is : (i : ℕ) → i < 8 → coord_gap (y i) (t_at ts i) ≡ gap_k (o_at p c i) (Y.k i) (t_at ts i)
  is i I0 = ap (λ (z : ℤ). coord_gap z (t_at ts i)) (Y.at i I0) ∙ gap_is (o_at p c i) (Y.k i) (t_at ts i)

  -- y with one whole number moved by 2
  abbrev k_b : ℕ → Bool → ℕ → ℤ
  k_b i b j = cond (eqb j i) (up2 b (Y.k i)) (Y.k j)

  at_i : (i : ℕ) (b : Bool) → k_b i b i ≡ up2 b (Y.k i)
  at_i i b = ap (λ (t : Bool). cond t (up2 b (Y.k i)) (Y.k i)) (eq-eqb i i refl)

  off : (i : ℕ) (b : Bool) (j : ℕ) → j ≢ i → k_b i b j ≡ Y.k j
  off i b j d = ap (λ (t : Bool). cond t (up2 b (Y.k i)) (Y.k j)) (ne_eqb j i d)

  bump_class : (i : ℕ) → i < 8 → (b : Bool) → par_k (k_b i b) 8 ≡ r
  bump_class i h b = go (sum_to (λ j. odd_k (k_b i b j)) 8) (sum_to (λ j. odd_k (Y.k j)) 8) (odd_k (k_b i b i)) (odd_k (Y.k i)) r
      (sum_set (λ j. odd_k (k_b i b j)) (λ j. odd_k (Y.k j)) i 8 h (λ j l d. ap odd_k (off i b j d))) (ap odd_k (at_i i b) ∙ odd-two b (Y.k i))
      Y.class
    where
      go : (m k x y r : ℕ) → m + y ≡ k + x → x ≡ y → k % 2 ≡ r → m % 2 ≡ r
      go m k x y r h e q = omega arith

  bumped : (i : ℕ) → i < 8 → (b : Bool) → gap_k (o_at p c i) (up2 b (Y.k i)) (t_at ts i) ≤ gap_k (o_at p c i) (Y.k i) (t_at ts i) → ⊥
  bumped i h b l = moves b (Y.k i)
      (member_one (o_at p c i) (o_at p c i) (up2 b (Y.k i)) (Y.k i) (o_lt p c i P0) (o_lt p c i P0)
      (sym (ap (member (o_at p c i)) (at_i i b)) ∙ same i h ∙ Y.at i h)).1
    where
      s : ℕ → ℤ
      s j = member (o_at p c j) (k_b i b j)

      at' : s i ≡ member (o_at p c i) (up2 b (Y.k i))
      at' = ap (member (o_at p c i)) (at_i i b)

      sum : sum_to (λ j. sq_v (s j) (t_at ts j)) 8 + sq_v (y i) (t_at ts i) ≡ sum_to (λ j. sq_v (y j) (t_at ts j)) 8 + sq_v (s i) (t_at ts i)
      sum = sum_set (λ j. sq_v (s j) (t_at ts j)) (λ j. sq_v (y j) (t_at ts j)) i 8 h
          (λ j m d. ap (λ (z : ℤ). sq_v z (t_at ts j)) (ap (member (o_at p c j)) (off i b j d) ∙ sym (Y.at j m)))

      less : coord_gap (s i) (t_at ts i) ≤ coord_gap (y i) (t_at ts i)
      less = le_trans (le_of_eq (ap (λ (z : ℤ). coord_gap z (t_at ts i)) at' ∙ gap_is (o_at p c i) (up2 b (Y.k i)) (t_at ts i)))
          (le_trans l (le_of_eq (sym (is i h))))

      le : (a b x y m : ℕ) → a + y ≡ b + x → x ≤ y → a ≤ b + m
      le a b x y m e l = omega arith

      same : Same s y
      same = own s (record { k = k_b i b; at = λ j m. refl; class = bump_class i h b })
          (le (dist8 s ts) (dist8 y ts) (sq_v (s i) (t_at ts i)) (sq_v (y i) (t_at ts i)) M sum (mul-le-mul less less))

  -- each target coordinate is within 4 of y's: else y moved by 8 there would be as near
  pub within4 : (i : ℕ) → i < 8 → coord_gap (y i) (t_at ts i) < 4 * U
  within4 i I0 = go (leb (4 * U) (coord_gap (y i) (t_at ts i))) (leb→le _ _) (nleb→lt _ _)
    where
      bad : 4 * U ≤ coord_gap (y i) (t_at ts i) → ⊥
      bad h = let n = nearer (o_at p c i) (Y.k i) (t_at ts i) (subst (λ (z : ℕ). 4 * U ≤ z) (is i I0) h) in bumped i I0 n.0 n.1

      go : (t : Bool) → (T t → 4 * U ≤ coord_gap (y i) (t_at ts i)) → (T (not t) → coord_gap (y i) (t_at ts i) < 4 * U)
          → coord_gap (y i) (t_at ts i) < 4 * U
      go true f g = absurd (bad (f tt))
      go false f g = g tt

-- y's coordinates by their rows
small_val : T (upto 4 (λ o. upto 5 (λ r. ltb (nat_abs (val_of o r)) 11)))
unfolding val_of
small_val = tt

pub row_small : (p c : ℕ) → p < 2 → (b : Closed) → b.cost ≤ 96 → (y : ℕ → ℤ) → RowOf p c b y → (j : ℕ) → j < 8 → nat_abs (y j) < 11
row_small p c P0 b B0 y R j h = subst (λ (z : ℤ). nat_abs z < 11) (sym (R.at j h))
    (ltb→lt _ 11 (below2 4 5 (λ o r. ltb (nat_abs (val_of o r)) 11) small_val (o_at p c j) (rank_at R.key j) (o_lt p c j P0)
    (suc-le (ranks-le (rank_at R.key) b B0 _ R.key refl R.within j h))))
  where
    suc-le : {a : ℕ} → a ≤ 4 → a < 5
    suc-le h = omega arith

-- so it is below 16
pub below16 : (y : ℤ) (t : Float) → T (fits binary64 t) → T (finite t) → nat_abs y < 11 → coord_gap y t < 4 * U → Target16 t
below16 y t f i h l = record { fit = f; fin = i; small = lt_of_le_of_lt (go (is_minus t) refl) (lit≤ tt) }
  where
    parts-le : (pos_part y ≤ 10) × (neg_part y ≤ 10)
    parts-le = let a = abs-parts y in (omega arith, omega arith)

    bound : (p n u x z m : ℕ) → p * u ≤ 10 * u → n * u ≤ 10 * u → gap (p * u + z) (n * u + x) < 4 * u → (x ≡ 0) ⊎ (z ≡ 0) → m ≡ x + z → m ≤ 14 * u
    bound p n u x z m a b g (inl q) e = omega arith
    bound p n u x z m a b g (inr q) e = omega arith

    either0 : (s : Bool) → is_minus t ≡ s → (pos_units t ≡ 0) ⊎ (neg_units t ≡ 0)
    either0 true q = inl (parts t true q).0
    either0 false q = inr (parts t false q).1

    go : (s : Bool) → is_minus t ≡ s → mag_units t ≤ 14 * U
    go s q = bound (pos_part y) (neg_part y) U (pos_units t) (neg_units t) (mag_units t) (mul-le-mul_right U parts-le.0)
        (mul-le-mul_right U parts-le.1) l (either0 s q) (mag_parts t)
