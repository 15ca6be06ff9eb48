-- Two coordinates of a candidate stepped at once, as the paired steps do.
use Rattle.std.specs.Prelude.{◌≡◌, ◌≢◌, List, ℕ, ◌+◌, ◌-◌, ◌*◌, ◌≤◌, ◌<◌, ℤ, nat_abs, Float}
use Rattle.std.proofs.Common.{ap, le_refl, lt_of_le_of_lt, arith, lit≤}
use Rattle.std.specs.Float.{binary64}
use Rattle.std.specs.Float.Ieee.{add, sub}
use Rattle.rank.specs.Vector.{sq}
use Rattle.float.specs.Laws.Near.{near_parts}
use Rattle.search.specs.Record.{sq_to, member}
use Rattle.search.specs.Solve.{key_moved}
use Rattle.nearest.specs.Laws.Keys.{mark_k}
use Rattle.nearest.specs.Laws.Forms.{sum_to}
use Rattle.nearest.specs.Laws.Coordinate.{Target}
use Rattle.nearest.specs.Laws.Operations.{H, near-plus, near_less}
use Rattle.nearest.specs.Laws.Shape.{o_at, o_lt, two-shape, sum-two}
use Rattle.nearest.specs.Laws.Candidate.{Cand, ET, TopT, t_at, sq_v, term, sum_top, member-small}

module _ (ts : List Float) (p c : ℕ) (P0 : p < 2) (T0 : (j : ℕ) → j < 8 → Target (t_at ts j)) (k k' : ℕ → ℤ) (i l : ℕ) (I0 : i < 8)
    (L0 : l < 8) (D0 : i ≢ l)
    (S0 : (j : ℕ) → j < 8 → nat_abs (k' j) < 31) (K0 : (j : ℕ) → j < 8 → j ≢ i → j ≢ l → k' j ≡ k j) where
  abbrev wts : (ℕ → ℤ) → ℕ → ℕ
  wts k j = sq (mark_k (o_at p c j) (k j))

  abbrev sqs : (ℕ → ℤ) → ℕ → ℕ
  sqs k j = sq_v (member (o_at p c j) (k j)) (t_at ts j)

  abbrev d_f : (ℕ → ℤ) → ℕ → Float
  d_f k j = sq_to (member (o_at p c j) (k j)) (t_at ts j)

  abbrev E8 : ℕ
  E8 = 8 * (ET + H)

  pub two-cand : (cost key : ℕ) (dist : Float) → Cand ts p c k cost key dist E8
      → Cand ts p c k' (cost - wts k i - wts k l + wts k' i + wts k' l) (key_moved key i (mark_k (o_at p c i) (k' i)) l (mark_k (o_at p c l) (k' l)))
      (add binary64 (add binary64 (sub binary64 (sub binary64 dist (d_f k i)) (d_f k l)) (d_f k' i)) (d_f k' l)) (E8 + ET + H + ET + H + ET + H + ET + H)
  two-cand cost key dist C =
      let ti = term (member (o_at p c i) (k i)) (t_at ts i) (member-small (o_at p c i) (k i) (o_lt p c i P0) (C.small i I0)) (T0 i I0) in
      let tl = term (member (o_at p c l) (k l)) (t_at ts l) (member-small (o_at p c l) (k l) (o_lt p c l P0) (C.small l L0)) (T0 l L0) in
      let ui = term (member (o_at p c i) (k' i)) (t_at ts i) (member-small (o_at p c i) (k' i) (o_lt p c i P0) (S0 i I0)) (T0 i I0) in
      let ul = term (member (o_at p c l) (k' l)) (t_at ts l) (member-small (o_at p c l) (k' l) (o_lt p c l P0) (S0 l L0)) (T0 l L0) in
      let top = sum_top (λ j. member (o_at p c j) (k j)) ts (λ j h. member-small (o_at p c j) (k j) (o_lt p c j P0) (C.small j h)) T0 8 (le_refl 8) in
      let a1 = near_less C.near ti.near (lt_of_le_of_lt (cap1 (sum_to (sqs k) 8) (sqs k i) TopT E8 ET top ti.top) (lit≤ tt)) in
      let a2 = near_less a1 tl.near (lt_of_le_of_lt (cap2 (sum_to (sqs k) 8) (sqs k i) (sqs k l) TopT E8 ET H top ti.top tl.top) (lit≤ tt)) in
      let a3 = near-plus a2 ui.near
      (lt_of_le_of_lt (cap3 (sum_to (sqs k) 8) (sqs k i) (sqs k l) (sqs k' i) TopT E8 ET H top ti.top tl.top ui.top) (lit≤ tt)) in
      let a4 = near-plus a3 ul.near
      (lt_of_le_of_lt (cap4 (sum_to (sqs k) 8) (sqs k i) (sqs k l) (sqs k' i) (sqs k' l) TopT E8 ET H top ti.top tl.top ui.top
      ul.top) (lit≤ tt)) in
      record {
        small = S0;
        shape = two-shape p c k k' i l I0 L0 D0 K0 cost key C.shape;
        near = near_parts (sum_to (sqs k') 8) 0 a4 (parts (sum_to (sqs k) 8) (sum_to (sqs k') 8) (sqs k i) (sqs k l) (sqs k' i) (sqs k' l)
            (sum-two (sqs k') (sqs k) i l 8 I0 L0 D0 (λ j h x y. ap (λ (z : ℤ). sq_v (member (o_at p c j) z) (t_at ts j)) (K0 j h x y))));
      }
    where
      cap1 : (s a n e y : ℕ) → s ≤ 8 * n → a ≤ n → s + 0 + e + (a + 0 + y) ≤ 9 * n + (e + y)
      cap1 s a n e y x z = omega arith

      cap2 : (s a b n e y h : ℕ) → s ≤ 8 * n → a ≤ n → b ≤ n → s + 0 + (0 + a) + (e + y + h) + (b + 0 + y) ≤ 10 * n + (e + y + h + y)
      cap2 s a b n e y h x z w = omega arith

      cap3 : (s a b r n e y h : ℕ) → s ≤ 8 * n → a ≤ n → b ≤ n → r ≤ n
          → s + 0 + 0 + (0 + a + b) + (e + y + h + y + h) + (r + 0 + y) ≤ 11 * n + (e + y + h + y + h + y)
      cap3 s a b r n e y h x z w v = omega arith

      cap4 : (s a b r q n e y h : ℕ) → s ≤ 8 * n → a ≤ n → b ≤ n → r ≤ n → q ≤ n
          → s + 0 + 0 + r + (0 + a + b + 0) + (e + y + h + y + h + y + h) + (q + 0 + y) ≤ 12 * n + (e + y + h + y + h + y + h + y)
      cap4 s a b r q n e y h x z w v u = omega arith

      parts : (s s' a b r q : ℕ) → s' + (a + b) ≡ s + (r + q) → s + 0 + 0 + r + q + 0 ≡ s' + (0 + a + b + 0 + 0)
      parts s s' a b r q h = omega arith
