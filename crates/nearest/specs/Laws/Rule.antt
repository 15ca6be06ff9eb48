-- The candidate rule, whatever is asked of a member that it keeps: the candidates that it tries are of the class wanted, so what holds of every
-- such candidate within the bound holds of what it meets. Whole numbers only, so for any targets.
use Rattle.std.specs.Prelude.{◌≡◌, ◌≢◌, ◌⊎◌, Bool, ◌&&◌, List, T, eqb, get_or, ℤ, pos, ◌-ℤ◌, Float}
use Rattle.std.proofs.Math.Path.{refl, ap}
use Rattle.std.proofs.Common.{sym, ap₂, ◌∙◌, subst, inl, inr, le_refl, mod-lt, zero-lt-suc, arith, eq-eqb, ne_eqb, eqb→eq, lit≤}
use Rattle.std.proofs.Math.Bool.{true, false, cond}
use Prim.Native.Nat.{ℕ, zero, suc, ◌+◌, ◌-◌, ◌*◌, ◌/◌, ◌%◌, ◌≤◌, ◌<◌}
use Rattle.std.specs.Int.Signed.{lt_z}
use Rattle.std.proofs.Math.IntN.{+ℤ-suc_ℤ, +ℤ_idr}
use Rattle.std.specs.Float.Ieee.{lt, le}
use Rattle.rank.specs.Vector.{sq}
use Rattle.search.specs.declared.Coord.{Coord}
use Rattle.search.specs.Record.{coord_at, slot_k, row}
use Rattle.search.specs.declared.Closed.{Closed}
use Rattle.search.specs.declared.Candidate.{Candidate}
use Rattle.search.specs.declared.Best.{Best}
use Rattle.search.specs.declared.Top.{Top}
use Rattle.search.specs.Bound.{holds}
use Rattle.search.specs.Base.{par_to, worst_to, slot_of, toward_of, now_to, key_set, stepped}
use Rattle.search.specs.Solve.{other_of, second_of, fix_of, top_to, step_of}
use Rattle.search.specs.Solve.{moved_d, moved_c, key_moved, move_at, moves_to, kept_base, layer_at, unmet, first_base, layers_to, solve}
use Rattle.nearest.specs.Laws.Forms.{odd_k, sum_to, par_k}
use Rattle.nearest.specs.Laws.Sums.{sum_same, sum_set}
use Rattle.nearest.specs.Laws.Ints.{odd-suc}
use Rattle.nearest.specs.Laws.Base.{par_is, worst-lt}
use Rattle.nearest.specs.Laws.Keys.{mark_k}
use Rattle.nearest.specs.Laws.Shape.{o_at, Slots, Shape, shape-eq, slot_lt, slot_at, slot_off, slot-plain}
use Rattle.nearest.specs.Laws.Shape.{now_shape, step-shape, two-shape, sum-two}

-- ---- the two largest regrets are two
abbrev pub TopOk : Top → ℕ → Type 0
TopOk t n = (t.j0 < n) × (t.j1 < n) × (t.j0 ≢ t.j1)

pub top_ok : (e : List Coord) (n : ℕ) → TopOk (top_to e n) (n + 2)
unfolding top_to
top_ok e zero = go (lt (coord_at e 0).regret (coord_at e 1).regret)
  where
    go : (b : Bool) → TopOk (cond b (record { j0 = 1; j1 = 0 }) (record { j0 = 0; j1 = 1 })) (0 + 2)
    go true = (omega arith, omega arith, omega arith)
    go false = (omega arith, omega arith, omega arith)
top_ok e (suc n) = go (top_ok e n) (lt (coord_at e (top_to e n).j0).regret (coord_at e (n + 2)).regret)
    (lt (coord_at e (top_to e n).j1).regret (coord_at e (n + 2)).regret)
  where
    go : TopOk (top_to e n) (n + 2) → (a b : Bool)
        → TopOk (cond a (record { j0 = n + 2; j1 = (top_to e n).j0 }) (cond b (record { j0 = (top_to e n).j0; j1 = n + 2 }) (top_to e n))) (suc n + 2)
    go t true b = let x = t.0 in (omega arith, omega arith, omega arith)
    go t false true = let x = t.0 in (omega arith, omega arith, omega arith)
    go t false false = let x = t.0 in let y = t.1 in (omega arith, omega arith, t.2)

-- ---- slots and parity
abbrev pub Adj : ℕ → ℕ → Type 0
Adj f g = (suc f ≡ g) ⊎ (f ≡ suc g)

pub slot_flip : (k : ℤ) (f : ℕ) → f < 4 → odd_k (slot_k k (suc f)) + odd_k (slot_k k f) ≡ 1
slot_flip k zero h = ap (λ (z : ℤ). odd_k z + odd_k (slot_k k 0)) (+ℤ-suc_ℤ k (pos 0 -ℤ pos 2)) ∙ odd-suc (slot_k k 0)
slot_flip k (suc zero) h = ap (λ (z : ℤ). odd_k z + odd_k (slot_k k 1)) (+ℤ-suc_ℤ k (pos 1 -ℤ pos 2)) ∙ odd-suc (slot_k k 1)
slot_flip k (suc (suc zero)) h = ap (λ (z : ℤ). odd_k z + odd_k (slot_k k 2)) (+ℤ-suc_ℤ k (pos 2 -ℤ pos 2)) ∙ odd-suc (slot_k k 2)
slot_flip k (suc (suc (suc zero))) h = ap (λ (z : ℤ). odd_k z + odd_k (slot_k k 3)) (+ℤ-suc_ℤ k (pos 3 -ℤ pos 2)) ∙ odd-suc (slot_k k 3)
slot_flip k (suc (suc (suc (suc f)))) h = absurd (omega arith)

pub adj_flip : (k : ℤ) (f g : ℕ) → f < 5 → g < 5 → Adj f g → odd_k (slot_k k f) + odd_k (slot_k k g) ≡ 1
adj_flip k f g a b (inl q) = subst
    (λ (z : ℕ). odd_k (slot_k k f) + odd_k (slot_k k z) ≡ 1) q (swap (odd_k (slot_k k (suc f))) (odd_k (slot_k k f)) (slot_flip k f (le4 f g q b)))
  where
    swap : (a b : ℕ) → a + b ≡ 1 → b + a ≡ 1
    swap a b h = omega arith

    le4 : (f g : ℕ) → suc f ≡ g → g < 5 → f < 4
    le4 f g q h = omega arith
adj_flip k f g a b (inr q) = subst (λ (z : ℕ). odd_k (slot_k k z) + odd_k (slot_k k g) ≡ 1) (sym q) (slot_flip k g (le4 f g q a))
  where
    le4 : (f g : ℕ) → f ≡ suc g → f < 5 → g < 4
    le4 f g q h = omega arith

-- a slot of a base: 1, 2 or 3
abbrev pub Mid : ℕ → Type 0
Mid f = (1 ≤ f) × (f ≤ 3)

pub toward_mid : (d : ℤ) → Mid (toward_of d)
toward_mid d = go (lt_z (pos 0) d)
  where
    go : (b : Bool) → Mid (cond b 3 1)
    go true = (omega arith, omega arith)
    go false = (omega arith, omega arith)

toward_adj : (d : ℤ) → Adj (toward_of d) 2
toward_adj d = go (lt_z (pos 0) d)
  where
    go : (b : Bool) → Adj (cond b 3 1) 2
    go true = inr refl
    go false = inl refl

slot_mid : (j0 fix j : ℕ) → Mid fix → Mid (slot_of j0 fix j)
slot_mid j0 fix j h = go (eqb j j0)
  where
    go : (b : Bool) → Mid (cond b fix 2)
    go true = h
    go false = (omega arith, omega arith)

pub mid-lt : {f : ℕ} → Mid f → f < 5
mid-lt h = let a = h.1 in omega arith

second_ok : (g : ℕ) (d : ℤ) → Mid g → Adj (second_of g d) g × (second_of g d < 5)
second_ok g d h = go (eqb g 2) (eqb→eq g 2) refl
  where
    go : (b : Bool) → (T b → g ≡ 2) → eqb g 2 ≡ b → Adj (cond b (toward_of d) 2) g × (cond b (toward_of d) 2 < 5)
    go true k q = (subst (Adj (toward_of d)) (sym (k tt)) (toward_adj d), mid-lt (toward_mid d))
    go false k q = (side g h (λ (e : g ≡ 2). subst T (sym (subst (λ (z : ℕ). eqb z 2 ≡ true) (sym e) refl) ∙ q) tt), lit≤ tt)
      where
        side : (g : ℕ) → Mid g → g ≢ 2 → Adj 2 g
        side zero h d = absurd (none h.0)
          where
            none : 1 ≤ 0 → ⊥
            none h = omega arith
        side (suc zero) h d = inr refl
        side (suc (suc zero)) h d = absurd (d refl)
        side (suc (suc (suc zero))) h d = inl refl
        side (suc (suc (suc (suc g)))) h d = absurd (none h.1)
          where
            none : suc (suc (suc (suc g))) ≤ 3 → ⊥
            none h = omega arith

first_ok : (g b : ℕ) → Mid g → b < 2 → Adj (g + 2 * b - 1) g × (g + 2 * b - 1 < 5)
first_ok g zero h l = let x = h.0 in let y = h.1 in (inl (omega arith), omega arith)
first_ok g (suc zero) h l = let x = h.0 in let y = h.1 in (inr (omega arith), omega arith)
first_ok g (suc (suc b)) h l = absurd (omega arith)

-- ---- whole numbers of the candidates: all at their rounding but slot fix at j0,
abbrev pub k_base : List Coord → ℕ → ℕ → ℕ → ℤ
k_base e j0 fix j = slot_k (coord_at e j).k0 (slot_of j0 fix j)

-- and with coordinate i at slot fj, coordinate l at slot f2
unfoldable pub k_pair : List Coord → ℕ → ℕ → ℕ → ℕ → ℕ → ℕ → ℕ → ℤ
k_pair e j0 fix i fj l f2 j = cond (eqb j i) (slot_k (coord_at e i).k0 fj) (cond (eqb j l) (slot_k (coord_at e l).k0 f2) (k_base e j0 fix j))

module _ (e : List Coord) where
  abbrev k_e : ℕ → ℤ
  k_e j = (coord_at e j).k0

  -- the base has the class it is for
  pub slot-class : (j0 want : ℕ) → j0 < 8 → want < 2 → par_k (k_base e j0 (fix_of e want j0)) 8 ≡ want
  slot-class j0 want J0 W0 = go (eqb (par_to e 8) want) (eqb→eq (par_to e 8) want) refl
    where
      k_t : ℕ → ℤ
      k_t j = slot_k (k_e j) (slot_of j0 (toward_of (coord_at e j0).dir) j)

      off : (j : ℕ) → slot_k (k_e j) (slot_of j0 2 j) ≡ k_e j
      off j = ap (slot_k (k_e j)) (slot-plain j0 j) ∙ +ℤ_idr (k_e j)

      at_j0 : k_t j0 ≡ slot_k (k_e j0) (toward_of (coord_at e j0).dir)
      at_j0 = ap (slot_k (k_e j0)) (slot_at j0 (toward_of (coord_at e j0).dir))

      away : (j : ℕ) → j ≢ j0 → k_t j ≡ k_e j
      away j d = ap (slot_k (k_e j)) (slot_off j0 (toward_of (coord_at e j0).dir) j d) ∙ +ℤ_idr (k_e j)

      other : (f g x y a r : ℕ) → f + y ≡ g + x → x + y ≡ 1 → a ≡ g % 2 → a ≢ r → r < 2 → f % 2 ≡ r
      other f g x y a r h k l m n = omega arith

      go : (b : Bool) → (T b → par_to e 8 ≡ want) → eqb (par_to e 8) want ≡ b
          → par_k (λ j. slot_k (k_e j) (slot_of j0 (cond b 2 (toward_of (coord_at e j0).dir)) j)) 8 ≡ want
      go true q x = ap (λ (z : ℕ). z % 2)
          (sum_same (λ j. odd_k (slot_k (k_e j) (slot_of j0 2 j))) (λ j. odd_k (k_e j)) 8 (λ j l. ap odd_k (off j))) ∙ sym (par_is e 8) ∙ q tt
      go false q x = other (sum_to (λ j. odd_k (k_t j)) 8) (sum_to (λ j. odd_k (k_e j)) 8) (odd_k (k_t j0)) (odd_k (k_e j0)) (par_to e 8) want
          (sum_set (λ j. odd_k (k_t j)) (λ j. odd_k (k_e j)) j0 8 J0 (λ j l m. ap odd_k (away j m)))
          (ap₂ (λ (a b : ℤ). odd_k a + odd_k b) at_j0 (sym (+ℤ_idr (k_e j0)))
          ∙ adj_flip (k_e j0) (toward_of (coord_at e j0).dir) 2 (mid-lt (toward_mid (coord_at e j0).dir)) (lit≤ tt)
          (toward_adj (coord_at e j0).dir))
          (par_is e 8) (λ (y : par_to e 8 ≡ want). subst T (sym (eq-eqb (par_to e 8) _ y) ∙ x) tt) W0

  pub fix_mid : (want j0 : ℕ) → Mid (fix_of e want j0)
  fix_mid want j0 = go (eqb (par_to e 8) want)
    where
      go : (b : Bool) → Mid (cond b 2 (toward_of (coord_at e j0).dir))
      go true = (omega arith, omega arith)
      go false = toward_mid (coord_at e j0).dir

-- ---- a pair's whole numbers
module _ (e : List Coord) (j0 fix i fj l f2 : ℕ) (D0 : i ≢ l) where
  abbrev k_m : ℕ → ℤ
  k_m = k_pair e j0 fix i fj l f2

  pub pair_i : k_m i ≡ slot_k (coord_at e i).k0 fj
  unfolding k_pair
  pair_i = ap (λ (t : Bool). cond t (slot_k (coord_at e i).k0 fj) (cond (eqb i l) (slot_k (coord_at e l).k0 f2) (k_base e j0 fix i))) (eq-eqb i i refl)

  pub pair_l : k_m l ≡ slot_k (coord_at e l).k0 f2
  unfolding k_pair
  pair_l = ap (λ (t : Bool). cond t (slot_k (coord_at e i).k0 fj) (cond (eqb l l) (slot_k (coord_at e l).k0 f2) (k_base e j0 fix l)))
      (ne_eqb l i (λ (q : l ≡ i). D0 (sym q))) ∙ ap (λ (t : Bool). cond t (slot_k (coord_at e l).k0 f2) (k_base e j0 fix l)) (eq-eqb l l refl)

  pub pair_off : (j : ℕ) → j < 8 → j ≢ i → j ≢ l → k_m j ≡ k_base e j0 fix j
  unfolding k_pair
  pair_off j h x y = ap (λ (t : Bool). cond t (slot_k (coord_at e i).k0 fj) (cond (eqb j l) (slot_k (coord_at e l).k0 f2) (k_base e j0 fix j)))
      (ne_eqb j i x) ∙ ap (λ (t : Bool). cond t (slot_k (coord_at e l).k0 f2) (k_base e j0 fix j)) (ne_eqb j l y)

  -- what each of its whole numbers has
  pub pair-each : (P : ℤ → Type 0) → P (slot_k (coord_at e i).k0 fj) → P (slot_k (coord_at e l).k0 f2) → (j : ℕ) → P (k_base e j0 fix j) → P (k_m j)
  unfolding k_pair
  pair-each P a b j c = go (eqb j i) (eqb j l)
    where
      go : (x y : Bool) → P (cond x (slot_k (coord_at e i).k0 fj) (cond y (slot_k (coord_at e l).k0 f2) (k_base e j0 fix j)))
      go true y = a
      go false true = b
      go false false = c

-- ---- the shapes of a pair and of the base of a pattern
module _ (p c : ℕ) (e : List Coord) (R : Slots p c e) where
  pub moved_shape : (j0 fix i fj l f2 : ℕ) → fix < 5 → i < 8 → fj < 5 → l < 8 → f2 < 5 → i ≢ l
      → Shape p c (k_pair e j0 fix i fj l f2) (moved_c (coord_at e i) (coord_at e l) (now_to e j0 fix 8).cost (slot_of j0 fix i) fj (slot_of j0 fix l) f2)
      (key_moved (now_to e j0 fix 8).key i (get_or (coord_at e i).rank fj 0) l (get_or (coord_at e l).rank f2 0))
  moved_shape j0 fix i fj l f2 F0 I0 F1 L0 F2 D0 =
      shape-eq p c (two-shape p c (k_base e j0 fix) (k_pair e j0 fix i fj l f2) i l I0 L0 D0 (pair_off e j0 fix i fj l f2 D0) now.cost
      now.key (now_shape p c e R j0 fix F0))
      (four _ _ _ _ _ _ _ _ (R.w_is i (slot_of j0 fix i) I0 (slot_lt j0 fix i F0)) (R.w_is l (slot_of j0 fix l) L0 (slot_lt j0 fix l F0))
      (R.w_is i fj I0 F1 ∙ ap (λ (z : ℤ). sq (mark_k (o_at p c i) z)) (sym at_i))
      (R.w_is l f2 L0 F2 ∙ ap (λ (z : ℤ). sq (mark_k (o_at p c l) z)) (sym at_l)))
      (ap₂ (λ (x y : ℕ). key_moved now.key i x l y) (R.rank_is i fj I0 F1 ∙ ap (mark_k (o_at p c i)) (sym at_i))
      (R.rank_is l f2 L0 F2 ∙ ap (mark_k (o_at p c l)) (sym at_l)))
    where
      now : Candidate
      now = now_to e j0 fix 8

      at_i : k_pair e j0 fix i fj l f2 i ≡ slot_k (coord_at e i).k0 fj
      at_i = pair_i e j0 fix i fj l f2 D0

      at_l : k_pair e j0 fix i fj l f2 l ≡ slot_k (coord_at e l).k0 f2
      at_l = pair_l e j0 fix i fj l f2 D0

      four : (x x' y y' u u' v v' : ℕ) → x ≡ x' → y ≡ y' → u ≡ u' → v ≡ v' → (now_to e j0 fix 8).cost - x - y + u + v
          ≡ (now_to e j0 fix 8).cost - x' - y' + u' + v'
      four x x' y y' u u' v v' p q r s =
          ap₂ (λ (a b : ℕ). (now_to e j0 fix 8).cost - a - b + u + v) p q ∙ ap₂ (λ (a b : ℕ). (now_to e j0 fix 8).cost - x' - y' + a + b) r s

  abbrev j_w : ℕ
  j_w = worst_to e 8

  abbrev to : ℕ
  to = toward_of (coord_at e j_w).dir

  t5 : to < 5
  t5 = mid-lt (toward_mid (coord_at e j_w).dir)

  w8 : j_w < 8
  w8 = worst-lt e 8 (le_refl 8)

  pub stepped-shape : Shape p c (k_base e j_w to) (stepped (coord_at e j_w) (now_to e 0 2 8) j_w).cost (stepped (coord_at e j_w) (now_to e 0 2 8) j_w).key
  unfolding stepped
  stepped-shape =
      shape-eq p c (step-shape p c (k_base e 0 2) (k_base e j_w to) j_w w8 off (now_to e 0 2 8).cost (now_to e 0 2 8).key
      (now_shape p c e R 0 2 (lit≤ tt)))
      (ap₂ (λ (a b : ℕ). (now_to e 0 2 8).cost - a + b)
      (R.w_is j_w 2 w8 (lit≤ tt) ∙ ap (λ (f : ℕ). sq (mark_k (o_at p c j_w) (slot_k (coord_at e j_w).k0 f))) (sym (slot-plain 0 j_w)))
      (R.w_is j_w to w8 t5 ∙ ap (λ (z : ℤ). sq (mark_k (o_at p c j_w) z)) (sym at_w)))
      (ap (key_set (now_to e 0 2 8).key j_w) (R.rank_is j_w to w8 t5 ∙ ap (mark_k (o_at p c j_w)) (sym at_w)))
    where
      at_w : k_base e j_w to j_w ≡ slot_k (coord_at e j_w).k0 to
      at_w = ap (slot_k (coord_at e j_w).k0) (slot_at j_w to)

      off : (j : ℕ) → j < 8 → j ≢ j_w → k_base e j_w to j ≡ k_base e 0 2 j
      off j h d = ap (slot_k (coord_at e j).k0) (slot_off j_w to j d ∙ sym (slot-plain 0 j))

-- ---- what is asked of the candidates on a row of records
pub record Gives (Q : ℕ → Float → Type 0) (want : ℕ) (bound : Closed) (e : List Coord) : Type 0 where
  pub base : (j0 fix : ℕ) → fix < 5 → par_k (k_base e j0 fix) 8 ≡ want → holds bound (now_to e j0 fix 8).cost (now_to e j0 fix 8).key ≡ true
      → Q (now_to e j0 fix 8).key (now_to e j0 fix 8).dist
  pub pair : (j0 fix i fj l f2 : ℕ) → fix < 5 → i < 8 → fj < 5 → l < 8 → f2 < 5 → i ≢ l → par_k (k_pair e j0 fix i fj l f2) 8 ≡ want
      → holds bound (moved_c (coord_at e i) (coord_at e l) (now_to e j0 fix 8).cost (slot_of j0 fix i) fj (slot_of j0 fix l) f2)
      (key_moved (now_to e j0 fix 8).key i (get_or (coord_at e i).rank fj 0) l (get_or (coord_at e l).rank f2 0)) ≡ true
      → Q (key_moved (now_to e j0 fix 8).key i (get_or (coord_at e i).rank fj 0) l (get_or (coord_at e l).rank f2 0))
      (moved_d (coord_at e i) (coord_at e l) (now_to e j0 fix 8).dist (slot_of j0 fix i) fj (slot_of j0 fix l) f2)

module _ (Q : ℕ → Float → Type 0) (want : ℕ) (W0 : want < 2) (bound : Closed) where
  abbrev Ok : Best → Type 0
  Ok b = b.met ≡ true → Q b.key b.d

  module _ (e : List Coord) (G : Gives Q want bound e) (top : Top) (J : TopOk top 8) where
    abbrev fix : ℕ
    fix = fix_of e want top.j0

    abbrev k_l : ℕ → ℤ
    k_l = k_base e top.j0 fix

    abbrev now : Candidate
    now = now_to e top.j0 fix 8

    f5 : fix_of e want top.j0 < 5
    f5 = mid-lt (fix_mid e want top.j0)

    class : par_k k_l 8 ≡ want
    class = slot-class e top.j0 want J.0 W0

    kept_ok : (best : Best) → Ok best → Ok (kept_base bound now best)
    kept_ok best b = go (holds bound now.cost now.key) refl (lt now.dist best.d)
      where
        go : (h : Bool) → holds bound now.cost now.key ≡ h → (l : Bool)
            → Ok (cond (h && l) (record { d = now.dist; key = now.key; met = true }) best)
        go true h true = λ q. G.base top.j0 fix f5 class h
        go true h false = b
        go false h l = b

    -- one paired step
    module _ (i l f2 fj : ℕ) (I0 : i < 8) (L0 : l < 8) (D0 : i ≢ l) (A1 : Adj fj (slot_of top.j0 fix i))
        (A2 : Adj f2 (slot_of top.j0 fix l)) (F1 : fj < 5) (F2 : f2 < 5) where
      abbrev k_n : ℕ → ℤ
      k_n = k_pair e top.j0 fix i fj l f2

      moved_class : par_k k_n 8 ≡ want
      moved_class = go (sum_to (λ j. odd_k (k_n j)) 8) (sum_to (λ j. odd_k (k_l j)) 8) (odd_k (k_l i)) (odd_k (k_l l)) (odd_k (k_n i)) (odd_k (k_n l)) want
          (sum-two (λ j. odd_k (k_n j)) (λ j. odd_k (k_l j)) i l 8 I0 L0 D0 (λ j h x y. ap odd_k (pair_off e top.j0 fix i fj l f2 D0 j h x y)))
          (ap (λ (z : ℤ). odd_k z + odd_k (k_l i)) (pair_i e top.j0 fix i fj l f2 D0)
          ∙ adj_flip (coord_at e i).k0 fj (slot_of top.j0 fix i) F1 (mid-lt (slot_mid top.j0 fix i (fix_mid e want top.j0))) A1)
          (ap (λ (z : ℤ). odd_k z + odd_k (k_l l)) (pair_l e top.j0 fix i fj l f2 D0)
          ∙ adj_flip (coord_at e l).k0 f2 (slot_of top.j0 fix l) F2 (mid-lt (slot_mid top.j0 fix l (fix_mid e want top.j0))) A2)
          class
        where
          go : (m k a b x y w : ℕ) → m + (a + b) ≡ k + (x + y) → x + a ≡ 1 → y + b ≡ 1 → k % 2 ≡ w → m % 2 ≡ w
          go m k a b x y w h f g q = omega arith

      abbrev D : Float
      D = moved_d (coord_at e i) (coord_at e l) now.dist (slot_of top.j0 fix i) fj (slot_of top.j0 fix l) f2

      abbrev C : ℕ
      C = moved_c (coord_at e i) (coord_at e l) now.cost (slot_of top.j0 fix i) fj (slot_of top.j0 fix l) f2

      abbrev K : ℕ
      K = key_moved now.key i (get_or (coord_at e i).rank fj 0) l (get_or (coord_at e l).rank f2 0)

      step_ok : (best : Best) → Ok best
          → Ok (step_of (coord_at e i) (coord_at e l) bound now best i (slot_of top.j0 fix i) fj l (slot_of top.j0 fix l) f2)
      unfolding step_of
      step_ok best b = go (le best.d D) (holds bound C K) refl
        where
          go : (x h : Bool) → holds bound C K ≡ h → Ok (cond x best (cond h (record { d = D; key = K; met = true }) best))
          go true h q = b
          go false true q = λ m. G.pair top.j0 fix i fj l f2 f5 I0 F1 L0 F2 D0 moved_class q
          go false false q = b

    move_ok : (best : Best) (n : ℕ) → n < 16 → Ok best → Ok (move_at e top fix bound now best n)
    move_ok best n h b =
        let j = n / 2 in
        let l = other_of (n / 2) top.j0 top.j1 in
        let o = other (n / 2) in
        let x = first_ok (slot_of top.j0 fix (n / 2)) (n % 2) (slot_mid top.j0 fix (n / 2) (fix_mid e want top.j0))
        (mod-lt n (zero-lt-suc 1)) in
        let y = second_ok (slot_of top.j0 fix l) (coord_at e l).dir (slot_mid top.j0 fix l (fix_mid e want top.j0)) in
        step_ok (n / 2) l (second_of (slot_of top.j0 fix l) (coord_at e l).dir) (slot_of top.j0 fix (n / 2) + 2 * (n % 2) - 1)
        (omega arith) o.0 o.1 x.0 y.0 x.1 y.1 best b
      where
        other : (j : ℕ) → (other_of j top.j0 top.j1 < 8) × (j ≢ other_of j top.j0 top.j1)
        other j = go (eqb j top.j0) (eqb→eq j top.j0) refl
          where
            go : (t : Bool) → (T t → j ≡ top.j0) → eqb j top.j0 ≡ t → (cond t top.j1 top.j0 < 8) × (j ≢ cond t top.j1 top.j0)
            go true k q = (J.1, λ (z : j ≡ top.j1). J.2 (sym (k tt) ∙ z))
            go false k q = (J.0, λ (z : j ≡ top.j0). subst T (sym (eq-eqb j _ z) ∙ q) tt)

    moves_ok : (start : Best) → Ok start → (n : ℕ) → n ≤ 16 → Ok (moves_to e top fix bound now start n)
    unfolding moves_to
    moves_ok start b zero h = b
    moves_ok start b (suc n) h = move_ok (moves_to e top fix bound now start n) n h (moves_ok start b n (omega arith))

    pub layer_ok : (best : Best) → Ok best → Ok (layer_at e top fix bound best)
    layer_ok best b = moves_ok (kept_base bound now best) (kept_ok best b) 16 (le_refl 16)

  -- ---- all layers
  module _ (ts : List Float) (p c : ℕ) (R : (s : ℕ) → s < 8 → Gives Q want bound (row ts p c s)) where
    top8 : (e : List Coord) → TopOk (top_to e 6) 8
    top8 e = top_ok e 6

    none : Ok unmet
    none q = absurd (subst T (sym q) tt)

    layers_ok : (n : ℕ) → n < 8 → Ok (layers_to ts p c want bound n)
    unfolding layers_to
    layers_ok zero h = layer_ok (row ts p c 0) (R 0 h) (top_to (row ts p c 0) 6) (top8 (row ts p c 0)) unmet none
    layers_ok (suc n) h = layer_ok (row ts p c (suc n)) (R (suc n) h) (top_to (row ts p c (suc n)) 6) (top8 (row ts p c (suc n)))
        (layers_to ts p c want bound n) (layers_ok n (omega arith))

    -- whatever the rule meets has what is asked
    pub solve-holds : (n : ℕ) → n ≤ 8 → Ok (solve ts p c want bound n)
    unfolding solve
    solve-holds n h = go (first_base (row ts p c 0) want bound).met
      where
        go : (m : Bool) → Ok (cond m (first_base (row ts p c 0) want bound) (layers_to ts p c want bound (n - 1)))
        go true = kept_ok (row ts p c 0) (R 0 (omega arith)) (top_to (row ts p c 0) 6) (top8 (row ts p c 0)) unmet none
        go false = layers_ok (n - 1) (omega arith)
