-- The join answers one of the paths, or infinity, and no dearer than a given path or its first section.
use Rattle.std.specs.Prelude.{◌≡◌, ◌⊎◌, Bool, cond}
use Rattle.std.proofs.Math.Path.{refl}
use Rattle.std.proofs.Common.{sym, subst, le_refl, arith}
use Rattle.std.proofs.Math.Logic.{inl, inr}
use Rattle.std.proofs.Math.Bool.{true, false}
use Prim.Native.Nat.{ℕ, zero, suc, ◌≤◌, ◌<◌}
use Rattle.std.proofs.Math.Decide.{ℕ_discrete}
use Rattle.std.specs.Float.Ieee.{lt, le}
use Rattle.search.specs.Tables.{Tables}
use Rattle.search.specs.declared.Sides.{Sides}
use Rattle.search.specs.Join.{keep, way_at, cost_at, ent_at, row_to, join_to}
use Rattle.search.specs.declared.Way.{Way}
use Rattle.search.specs.Solve.{infinity}
use Rattle.nearest.specs.Laws.Under.{Num, Under, under-lt, under_not-lt, under-le}
use Rattle.laws.specs.Laws.Order.{lt-other}

pub keep_num : (a b : Way) → Num a.cost → Num b.cost → Num (keep a b).cost
keep_num a b m n = go (lt a.cost b.cost)
  where
    go : (t : Bool) → Num (cond t a b).cost
    go true = m
    go false = n

-- the way that is kept is as cheap as the one that the test names
keep-under : (a b : Way) {B : ℕ} → (lt a.cost b.cost ≡ true → Under a.cost B) → (lt a.cost b.cost ≡ false → Under b.cost B)
    → Under (keep a b).cost B
keep-under a b {B} f g = go (lt a.cost b.cost) refl
  where
    go : (t : Bool) → lt a.cost b.cost ≡ t → Under (cond t a b).cost B
    go true h = f h
    go false h = g h

keep_new : (a b : Way) {B : ℕ} → Under a.cost B → Num b.cost → Under (keep a b).cost B
keep_new a b u n = keep-under a b (λ h. u) (under_not-lt a.cost b.cost u n)

keep_old : (a b : Way) {B : ℕ} → Num a.cost → Under b.cost B → Under (keep a b).cost B
keep_old a b n u = keep-under a b (under-lt a.cost b.cost n u) (λ h. u)

-- a way is infinite in cost, or one of those that were seen
abbrev pub Seen : Tables → ℕ → Sides → Way → Type 0
Seen g p s w = (w.cost ≡ infinity) ⊎ ((i : ℕ) × (n : ℕ) × (i < 128) × (n < 32) × (w ≡ way_at g p s i n))

module _ (g : Tables) (p : ℕ) (s : Sides) (N : (i n : ℕ) → i < 128 → n < 32 → Num (cost_at g p s i n)) where
  row_num : (i : ℕ) → i < 128 → (w : Way) → Num w.cost → (n : ℕ) → n ≤ 32 → Num (row_to g p s i w n).cost
  unfolding row_to
  row_num i l w m zero h = m
  row_num i l w m (suc n) h = keep_num (way_at g p s i n) (row_to g p s i w n) (N i n l h) (row_num i l w m n (omega arith))

  row_old : (i : ℕ) → i < 128 → (w : Way) {B : ℕ} → Under w.cost B → (n : ℕ) → n ≤ 32 → Under (row_to g p s i w n).cost B
  unfolding row_to
  row_old i l w u zero h = u
  row_old i l w u (suc n) h = keep_old (way_at g p s i n) (row_to g p s i w n) (N i n l h) (row_old i l w u n (omega arith))

  row_new : (i : ℕ) → i < 128 → (w : Way) {B : ℕ} → Num w.cost → (j : ℕ) → Under (cost_at g p s i j) B → (n : ℕ) → n ≤ 32 → j < n
      → Under (row_to g p s i w n).cost B
  unfolding row_to
  row_new i l w m j u zero h k = absurd (omega arith)
  row_new i l w {B} m j u (suc n) h k = go (λ q. row_new i l w m j u n (omega arith) q) (ℕ_discrete n j)
    where
      go : (j < n → Under (row_to g p s i w n).cost B) → Dec (n ≡ j) → Under (keep (way_at g p s i n) (row_to g p s i w n)).cost B
      go r (yes e) = keep_new (way_at g p s i n) (row_to g p s i w n)
          (subst (λ (z : ℕ). Under (cost_at g p s i z) B) (sym e) u) (row_num i l w m n (omega arith))
      go r (no d) = keep_old (way_at g p s i n) (row_to g p s i w n) (N i n l h) (r (lt-other d k))

  row_seen : (i : ℕ) → i < 128 → (w : Way) → Seen g p s w → (n : ℕ) → n ≤ 32 → Seen g p s (row_to g p s i w n)
  unfolding row_to
  row_seen i l w m zero h = m
  row_seen i l w m (suc n) h = go (row_seen i l w m n (omega arith)) (lt (cost_at g p s i n) (row_to g p s i w n).cost)
    where
      go : Seen g p s (row_to g p s i w n) → (t : Bool) → Seen g p s (cond t (way_at g p s i n) (row_to g p s i w n))
      go r true = inr (i, n, l, h, refl)
      go r false = r

  pub join_num : (n : ℕ) → n ≤ 128 → Num (join_to g p s n).cost
  unfolding join_to
  join_num zero h = inl refl
  join_num (suc n) h = go (join_num n (omega arith)) (le (join_to g p s n).cost (ent_at s.e1 n).value)
    where
      go : Num (join_to g p s n).cost → (t : Bool) → Num (cond t (join_to g p s n) (row_to g p s n (join_to g p s n) 32)).cost
      go r true = r
      go r false = row_num n h (join_to g p s n) r 32 (le_refl 32)

  pub join_seen : (n : ℕ) → n ≤ 128 → Seen g p s (join_to g p s n)
  unfolding join_to
  join_seen zero h = inl refl
  join_seen (suc n) h = go (join_seen n (omega arith)) (le (join_to g p s n).cost (ent_at s.e1 n).value)
    where
      go : Seen g p s (join_to g p s n) → (t : Bool) → Seen g p s (cond t (join_to g p s n) (row_to g p s n (join_to g p s n) 32))
      go r true = r
      go r false = row_seen n h (join_to g p s n) r 32 (le_refl 32)

  -- a path that is under B, and whose first entry is, leaves the join under B: passed over or walked, the best is no dearer
  pub join-under : (i j : ℕ) → j < 32 → {B : ℕ} → Under (ent_at s.e1 i).value B → Under (cost_at g p s i j) B → (n : ℕ) → n ≤ 128 → i < n
      → Under (join_to g p s n).cost B
  unfolding join_to
  join-under i j k u c zero h l = absurd (omega arith)
  join-under i j k {B} u c (suc n) h l =
      go (λ q. join-under i j k u c n (omega arith) q) (ℕ_discrete n i) (le (join_to g p s n).cost (ent_at s.e1 n).value) refl
    where
      go : (i < n → Under (join_to g p s n).cost B) → Dec (n ≡ i) → (t : Bool) → le (join_to g p s n).cost (ent_at s.e1 n).value ≡ t
          → Under (cond t (join_to g p s n) (row_to g p s n (join_to g p s n) 32)).cost B
      go r (yes e) true q = under-le (join_to g p s n).cost (ent_at s.e1 n).value (join_num n (omega arith))
          (subst (λ (z : ℕ). Under (ent_at s.e1 z).value B) (sym e) u) q
      go r (yes e) false q = row_new n h (join_to g p s n) (join_num n (omega arith)) j
          (subst (λ (z : ℕ). Under (cost_at g p s z j) B) (sym e) c) 32 (le_refl 32) k
      go r (no d) true q = r (lt-other d l)
      go r (no d) false q = row_old n h (join_to g p s n) (r (lt-other d l)) 32 (le_refl 32)
