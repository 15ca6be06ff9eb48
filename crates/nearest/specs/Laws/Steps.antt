-- Candidates made by the loops: all eight at their slots, then one coordinate stepped.
use Rattle.std.specs.Prelude.{◌≡◌, ◌≢◌, List, ℕ, ◌+◌, ◌-◌, ◌*◌, ◌≤◌, ◌<◌, ℤ, nat_abs, Float}
use Rattle.std.proofs.Common.{sym, ap, subst, le_refl, lt_of_le_of_lt, arith, lit≤}
use Rattle.std.proofs.Math.Decide.{ℕ_discrete}
use Rattle.std.specs.Float.{binary64}
use Rattle.std.specs.Float.Ieee.{add, sub}
use Rattle.float.specs.Value.{U}
use Rattle.float.specs.Laws.Near.{Near, near_parts}
use Rattle.rank.specs.Vector.{sq}
use Rattle.search.specs.declared.Coord.{Coord}
use Rattle.search.specs.Record.{coord_at, slot_k, sq_to, member}
use Rattle.search.specs.Base.{slot_of, now_to, key_set}
use Rattle.nearest.specs.Laws.Keys.{mark_k}
use Rattle.nearest.specs.Laws.Forms.{sum_to}
use Rattle.nearest.specs.Laws.Sums.{sum_set}
use Rattle.nearest.specs.Laws.Coordinate.{Target}
use Rattle.nearest.specs.Laws.Operations.{H, near-plus, near_less}
use Rattle.nearest.specs.Laws.Entries.{ES}
use Rattle.nearest.specs.Laws.Shape.{Slots, Dists, now_dist, o_at, o_lt, slot-abs, slot_lt, now_shape, step-shape}
use Rattle.nearest.specs.Laws.Candidate.{Cand, ET, TopT, t_at, sq_v, term, near_dist, sum_top, member-small}

-- what a row of records is
pub record Row (ts : List Float) (p c : ℕ) (e : List Coord) : Type 0 where
  pub small : (j : ℕ) → j < 8 → nat_abs (coord_at e j).k0 < 16
  pub slots : Slots p c e
  pub d_is : Dists ts p c e

pub slot_small : (k : ℤ) (f : ℕ) → nat_abs k < 16 → f < 5 → nat_abs (slot_k k f) < 31
slot_small k f h l = let a = slot-abs k f l in omega arith

-- ---- all eight at their slots
module _ (ts : List Float) (p c : ℕ) (P0 : p < 2) (T0 : (j : ℕ) → j < 8 → Target (t_at ts j)) (e : List Coord) (R : Row ts p c e) where
  module _ (j0 fix : ℕ) (F0 : fix < 5) where
    abbrev pub k_s : ℕ → ℤ
    k_s j = slot_k (coord_at e j).k0 (slot_of j0 fix j)

    k_s_small : (j : ℕ) → j < 8 → nat_abs (k_s j) < 31
    k_s_small j h = slot_small (coord_at e j).k0 (slot_of j0 fix j) (R.small j h) (slot_lt j0 fix j F0)

    pub now_cand : Cand ts p c k_s (now_to e j0 fix 8).cost (now_to e j0 fix 8).key (now_to e j0 fix 8).dist (8 * (ET + H))
    now_cand = record {
      small = k_s_small;
      shape = now_shape p c e R.slots j0 fix F0;
      near = subst (λ (x : Float). Near U x (sum_to (λ j. sq_v (member (o_at p c j) (k_s j)) (t_at ts j)) 8) 0 (8 * (ET + H)))
          (sym (now_dist ts p c e R.d_is j0 fix F0 8 (le_refl 8)))
          (near_dist (λ j. member (o_at p c j) (k_s j)) ts (λ j h. member-small (o_at p c j) (k_s j) (o_lt p c j P0) (k_s_small j h)) T0 8 (le_refl 8));
    }

-- ---- one coordinate stepped
module _ (ts : List Float) (p c : ℕ) (P0 : p < 2) (T0 : (j : ℕ) → j < 8 → Target (t_at ts j)) (k k' : ℕ → ℤ) (i : ℕ) (I0 : i < 8)
    (S0 : nat_abs (k' i) < 31) (K0 : (j : ℕ) → j < 8 → j ≢ i → k' j ≡ k j) where
  abbrev o : ℕ
  o = o_at p c i

  abbrev sqs : (ℕ → ℤ) → ℕ → ℕ
  sqs k j = sq_v (member (o_at p c j) (k j)) (t_at ts j)

  pub step-cand : (cost key : ℕ) (dist : Float) (e : ℕ) → e ≤ ES → Cand ts p c k cost key dist e
      → Cand ts p c k' (cost - sq (mark_k o (k i)) + sq (mark_k o (k' i))) (key_set key i (mark_k o (k' i)))
      (add binary64 (sub binary64 dist (sq_to (member o (k i)) (t_at ts i))) (sq_to (member o (k' i)) (t_at ts i))) (e + ET + H + ET + H)
  step-cand cost key dist e E0 C =
      let t0 = term (member o (k i)) (t_at ts i) (member-small o (k i) (o_lt p c i P0) (C.small i I0)) (T0 i I0) in
      let t1 = term (member o (k' i)) (t_at ts i) (member-small o (k' i) (o_lt p c i P0) S0) (T0 i I0) in
      let top = sum_top (λ j. member (o_at p c j) (k j)) ts (λ j h. member-small (o_at p c j) (k j) (o_lt p c j P0) (C.small j h)) T0 8 (le_refl 8) in
      let a = near_less C.near t0.near (lt_of_le_of_lt (cap1 (sum_to (sqs k) 8) (sqs k i) e (8 * TopT) TopT ES ET top t0.top E0) (lit≤ tt)) in
      let b = near-plus a t1.near
      (lt_of_le_of_lt (cap2 (sum_to (sqs k) 8) (sqs k i) (sqs k' i) e (8 * TopT) TopT ES ET H top t0.top t1.top E0) (lit≤ tt)) in
      record {
        small = small';
        shape = step-shape p c k k' i I0 K0 cost key C.shape;
        near = near_parts (sum_to (sqs k') 8) 0 b
            (parts (sum_to (sqs k) 8) (sqs k' i) (sum_to (sqs k') 8) (sqs k i)
            (sum_set (sqs k') (sqs k) i 8 I0 (λ j h d. ap (λ (z : ℤ). sq_v (member (o_at p c j) z) (t_at ts j)) (K0 j h d))));
      }
    where
      cap1 : (s q e m n x y : ℕ) → s ≤ m → q ≤ n → e ≤ x → s + 0 + e + (q + 0 + y) ≤ m + x + (n + y)
      cap1 s q e m n x y a b c = omega arith

      cap2 : (s q r e m n x y h : ℕ) → s ≤ m → q ≤ n → r ≤ n → e ≤ x → s + 0 + (0 + q) + (e + y + h) + (r + 0 + y) ≤ m + n + (x + y + h) + (n + y)
      cap2 s q r e m n x y h a b c d = omega arith

      parts : (s r s' q : ℕ) → s' + q ≡ s + r → s + 0 + r + 0 ≡ s' + (0 + q + 0)
      parts s r s' q h = omega arith

      small' : (j : ℕ) → j < 8 → nat_abs (k' j) < 31
      small' j h = go (ℕ_discrete j i)
        where
          go : Dec (j ≡ i) → nat_abs (k' j) < 31
          go (yes q) = subst (λ (z : ℕ). nat_abs (k' z) < 31) (sym q) S0
          go (no d) = subst (λ (z : ℤ). nat_abs z < 31) (sym (K0 j h d)) (C.small j h)
