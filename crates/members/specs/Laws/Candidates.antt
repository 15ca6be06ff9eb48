-- What the rule meets: a member of its byte and class, at a finite distance.
use Rattle.std.specs.Prelude.{◌≡◌, Bool, cond, List, ℕ, ◌+◌, ◌*◌, ◌^◌, ◌≤◌, ◌<◌, get_or, ℤ, pos, nat_abs, Float}
use Rattle.std.proofs.Math.Path.{refl}
use Rattle.std.proofs.Common.{sym, ap, ◌∙◌, subst, le_refl, lit≤}
use Rattle.std.proofs.Math.Bool.{true, false}
use Rattle.std.proofs.Math.Dec.{eqb}
use Rattle.std.specs.Float.{nan, binary64}
use Rattle.std.specs.Float.Ieee.{sub, mul, of_int}
use Rattle.std.specs.Float.Ieee.Fits.{div-fits}
use Rattle.rank.specs.Vector.{sq}
use Rattle.float.specs.Value.{four64}
use Rattle.float.specs.Laws.Rounding.{rounded-le}
use Rattle.search.specs.declared.Coord.{Coord}
use Rattle.search.specs.declared.Closed.{Closed}
use Rattle.search.specs.Record.{coord_at, coord_of, on_lattice, row, shrinks, slot_k, member}
use Rattle.search.specs.Bound.{holds}
use Rattle.search.specs.Base.{slot_of, toward_of, par_to, worst_to, now_to, stepped, base_now}
use Rattle.search.specs.Solve.{moved_d, moved_c, key_moved, solve}
use Rattle.search.specs.Entries.{rank_at, section_at}
use Rattle.nearest.specs.Laws.Forms.{sum_to, par_k}
use Rattle.nearest.specs.Laws.Sums.{sum_same}
use Rattle.nearest.specs.Laws.Keys.{mark_k}
use Rattle.nearest.specs.Laws.Lattice.{Sec}
use Rattle.nearest.specs.Laws.Base.{worst-lt}
use Rattle.nearest.specs.Laws.Shape.{o_at, o_lt, Shape, shape_at, row_at, row-slots, row_d, slot_lt, now_shape, now_dist}
use Rattle.nearest.specs.Laws.Rule.{k_base, k_pair, moved_shape, stepped-shape, Gives, solve-holds, slot-class, mid-lt, toward_mid}
use Rattle.members.specs.Laws.Sizes.{Below, wider, Err, Term, Target, term-below, plus, less, dist_below, member_far, slot_far}

-- ---- the packed row `key` is a member of parity p, byte c, class r and bound b
pub record Member (p c r : ℕ) (b : Closed) (key : ℕ) : Type 0 where
  pub sec : Sec p c r (section_at p c key)
  pub key-lt : key < 2 ^ 32
  pub within : holds b (sum_to (λ j. sq (rank_at key j)) 8) key ≡ true

pub shape-member : (p c r : ℕ) → p < 2 → (b : Closed) → b.cost ≤ 96 → (k : ℕ → ℤ) (cost key : ℕ) → Shape p c k cost key → par_k k 8 ≡ r
    → holds b cost key ≡ true → Member p c r b key
shape-member p c r P0 b B0 k cost key C q h = record {
  sec = record { k = k; at = shape_at p c P0 b B0 k cost key C h; class = q };
  key-lt = C.key-lt;
  within = subst (λ (z : ℕ). holds b z key ≡ true)
      (C.cost_is ∙ sum_same (λ j. sq (mark_k (o_at p c j) (k j))) (λ j. sq (rank_at key j)) 8 (λ j l. ap sq (sym (C.key_is j l)))) h;
}

-- the room of a section's distance
abbrev pub Far : ℕ
Far = 12 * Term

-- a member at a finite distance
pub record Good (p c r : ℕ) (b : Closed) (key : ℕ) (d : Float) : Type 0 where
  pub is : Member p c r b key
  pub below : Below Far d

-- ---- what the rows hold
coord_far : (t z : Float) (o : ℕ) → nat_abs (coord_of t z o).k0 ≤ 1000000
unfolding coord_of
coord_far t z o = rounded-le (on_lattice t z o) (div-fits binary64 (sub binary64 (mul binary64 t z) (of_int binary64 (pos o))) four64)

pub k_far : (ts : List Float) (p c s j : ℕ) → j < 8 → nat_abs (coord_at (row ts p c s) j).k0 ≤ 1000000
k_far ts p c s j h = subst (λ (x : Coord). nat_abs x.k0 ≤ 1000000) (sym (row_at ts p c s j h))
    (coord_far (get_or ts j nan) (get_or shrinks s nan) (o_at p c j))

module _ (ts : List Float) (p c s : ℕ) (P0 : p < 2) (T0 : (j : ℕ) → j < 8 → Target (get_or ts j nan)) where
  abbrev e : List Coord
  e = row ts p c s

  d_below : (j f : ℕ) → j < 8 → f < 5 → Below (2 ^ 1122 + Err) (get_or (coord_at e j).d f nan)
  d_below j f h l =
      subst (Below (2 ^ 1122 + Err)) (sym (row_d ts p c s j f h l))
      (term-below (member (o_at p c j) (slot_k (coord_at e j).k0 f)) (get_or ts j nan)
      (member_far (o_at p c j) (slot_k (coord_at e j).k0 f) (o_lt p c j P0) (slot_far (coord_at e j).k0 f (k_far ts p c s j h) l)) (T0 j h))

  pub now_below : (j0 fix : ℕ) → fix < 5 → Below (8 * Term) (now_to e j0 fix 8).dist
  now_below j0 fix F0 =
      subst (Below (8 * Term)) (sym (now_dist ts p c e (row_d ts p c s) j0 fix F0 8 (le_refl 8)))
      (dist_below (λ j. member (o_at p c j) (k_base e j0 fix j)) ts
      (λ j h. member_far (o_at p c j) (k_base e j0 fix j) (o_lt p c j P0)
      (slot_far (coord_at e j).k0 (slot_of j0 fix j) (k_far ts p c s j h) (slot_lt j0 fix j F0))) T0 8 (le_refl 8))

  moved_below : (j0 fix i fj l f2 : ℕ) → fix < 5 → i < 8 → fj < 5 → l < 8 → f2 < 5
      → Below Far (moved_d (coord_at e i) (coord_at e l) (now_to e j0 fix 8).dist (slot_of j0 fix i) fj (slot_of j0 fix l) f2)
  moved_below j0 fix i fj l f2 F0 I0 F1 L0 F2 =
      plus 11 (lit≤ tt) _ _
      (plus 10 (lit≤ tt) _ _
      (less 9 (lit≤ tt) _ _
      (less 8 (lit≤ tt) _ _ (now_below j0 fix F0) (d_below i (slot_of j0 fix i) I0 (slot_lt j0 fix i F0)))
      (d_below l (slot_of j0 fix l) L0 (slot_lt j0 fix l F0)))
      (d_below i fj I0 F1))
      (d_below l f2 L0 F2)

  -- ---- the base of a pattern
  abbrev j_w : ℕ
  j_w = worst_to e 8

  abbrev to : ℕ
  to = toward_of (coord_at e j_w).dir

  t5 : to < 5
  t5 = mid-lt (toward_mid (coord_at e j_w).dir)

  w8 : j_w < 8
  w8 = worst-lt e 8 (le_refl 8)

  stepped-below : Below Far (stepped (coord_at e j_w) (now_to e 0 2 8) j_w).dist
  unfolding stepped
  stepped-below = wider Far (lit≤ tt)
      (plus 9 (lit≤ tt) _ _ (less 8 (lit≤ tt) _ _ (now_below 0 2 (lit≤ tt)) (d_below j_w 2 w8 (lit≤ tt))) (d_below j_w to w8 t5))

  pub base_below : (r : ℕ) → Below Far (base_now e r).dist
  unfolding base_now
  base_below r = go (eqb (par_to e 8) r)
    where
      go : (b : Bool) → Below Far (cond b (now_to e 0 2 8) (stepped (coord_at e j_w) (now_to e 0 2 8) j_w)).dist
      go true = wider Far (lit≤ tt) (now_below 0 2 (lit≤ tt))
      go false = stepped-below

  pub base_member : (r : ℕ) → r < 2 → (b : Closed) → b.cost ≤ 96 → holds b (base_now e r).cost (base_now e r).key ≡ true
      → Member p c r b (base_now e r).key
  unfolding base_now
  base_member r R0 b B0 = go (eqb (par_to e 8) r) refl
    where
      go : (x : Bool) → eqb (par_to e 8) r ≡ x
          → holds b (cond x (now_to e 0 2 8) (stepped (coord_at e j_w) (now_to e 0 2 8) j_w)).cost
          (cond x (now_to e 0 2 8) (stepped (coord_at e j_w) (now_to e 0 2 8) j_w)).key ≡ true
          → Member p c r b (cond x (now_to e 0 2 8) (stepped (coord_at e j_w) (now_to e 0 2 8) j_w)).key
      go true q h = shape-member p c r P0 b B0 (k_base e 0 2) (now_to e 0 2 8).cost (now_to e 0 2 8).key
          (now_shape p c e (row-slots ts p c s) 0 2 (lit≤ tt))
          (subst (λ (x : Bool). par_k (k_base e 0 (cond x 2 (toward_of (coord_at e 0).dir))) 8 ≡ r) q (slot-class e 0 r (lit≤ tt) R0)) h
      go false q h = shape-member p c r P0 b B0 (k_base e j_w to) (stepped (coord_at e j_w) (now_to e 0 2 8) j_w).cost
          (stepped (coord_at e j_w) (now_to e 0 2 8) j_w).key (stepped-shape p c e (row-slots ts p c s))
          (subst (λ (x : Bool). par_k (k_base e j_w (cond x 2 (toward_of (coord_at e j_w).dir))) 8 ≡ r) q (slot-class e j_w r w8 R0)) h

  -- ---- what every candidate within the bound is
  pub gives : (want : ℕ) (b : Closed) → b.cost ≤ 96 → Gives (Good p c want b) want b e
  gives want b B0 = record {
    base = λ j0 fix F0 q h. record {
      is = shape-member p c want P0 b B0 (k_base e j0 fix) (now_to e j0 fix 8).cost (now_to e j0 fix 8).key
          (now_shape p c e (row-slots ts p c s) j0 fix F0) q h;
      below = wider Far (lit≤ tt) (now_below j0 fix F0);
    };
    pair = λ j0 fix i fj l f2 F0 I0 F1 L0 F2 D0 q h. record {
      is = shape-member p c want P0 b B0 (k_pair e j0 fix i fj l f2)
          (moved_c (coord_at e i) (coord_at e l) (now_to e j0 fix 8).cost (slot_of j0 fix i) fj (slot_of j0 fix l) f2)
          (key_moved (now_to e j0 fix 8).key i (get_or (coord_at e i).rank fj 0) l (get_or (coord_at e l).rank f2 0))
          (moved_shape p c e (row-slots ts p c s) j0 fix i fj l f2 F0 I0 F1 L0 F2 D0) q h;
      below = moved_below j0 fix i fj l f2 F0 I0 F1 L0 F2;
    };
  }

-- ---- whatever the rule meets is a member at a finite distance
pub solve-good : (ts : List Float) (p c : ℕ) → p < 2 → ((j : ℕ) → j < 8 → Target (get_or ts j nan)) → (want : ℕ) → want < 2 → (b : Closed)
    → b.cost ≤ 96 → (n : ℕ) → n ≤ 8
    → (solve ts p c want b n).met ≡ true → Good p c want b (solve ts p c want b n).key (solve ts p c want b n).d
solve-good ts p c P0 T0 want W0 b B0 n h = solve-holds (Good p c want b) want W0 b ts p c (λ s l. gives ts p c s P0 T0 want b B0) n h
