-- The base is a candidate; y's own base is y's section, a member, and cheap; another base of y's state that is cheap is a member too.
use Rattle.std.specs.Prelude.{◌≡◌, refl, ◌≢◌, Bool, cond, List, eqb, ℤ, nat_abs, Float}
use Rattle.std.proofs.Common.{sym, ap₂, ◌∙◌, le_refl, le_trans, le_of_eq, add-le-add, arith, lit≤}
use Rattle.std.proofs.Math.Path.{ap, subst, fun_ext}
use Rattle.std.proofs.Math.Bool.{true, false}
use Prim.Native.Nat.{ℕ, ◌+◌, ◌*◌, ◌≤◌, ◌<◌}
use Rattle.std.specs.Float.Ieee.{binary64, add, sub}
use Rattle.float.specs.Value.{U}
use Rattle.float.specs.Laws.Near.{Near, near-more}
use Rattle.rank.specs.Vector.{sq}
use Rattle.rank.specs.Answers.{mark_of}
use Rattle.search.specs.declared.Coord.{Coord}
use Rattle.search.specs.Record.{coord_at, row, slot_k, sq_to, member}
use Rattle.search.specs.Base.{slot_of, toward_of, now_to, stepped, base_now, par_to, worst_to, base_best}
use Rattle.search.specs.Entries.{rank_at}
use Rattle.search.specs.declared.Candidate.{Candidate}
use Rattle.search.specs.declared.Closed.{Closed}
use Rattle.search.specs.Bound.{holds}
use Rattle.nearest.specs.Laws.Keys.{mark_k, rank_forth, nib_ext}
use Rattle.nearest.specs.Laws.Forms.{sum_to, RowOf}
use Rattle.nearest.specs.Laws.Sums.{sum_same}
use Rattle.nearest.specs.Laws.Ints.{gap_is, gap_k}
use Rattle.nearest.specs.Laws.Coordinate.{Target}
use Rattle.nearest.specs.Laws.Base.{facts, worst-lt, b_k, base_best_lem, W3}
use Rattle.nearest.specs.Laws.Operations.{H}
use Rattle.nearest.specs.Laws.Lattice.{Sec, Same, dist8, M}
use Rattle.nearest.specs.Laws.Under.{Num, Under, near_num, near-under, under-near}
use Rattle.nearest.specs.Laws.Entries.{ES, SoundB}
use Rattle.nearest.specs.Laws.Shape.{o_at, o_lt, ranks-le, slot_at, slot_off, slot-plain, row-slots, row_d}
use Rattle.nearest.specs.Laws.Candidate.{Cand, ET, t_at, sq_v, cand-stands}
use Rattle.nearest.specs.Laws.Rule.{mid-lt, toward_mid, slot-class, stepped-shape}
use Rattle.nearest.specs.Laws.Steps.{Row, slot_small, now_cand, step-cand}

-- a candidate that is a member section is a member
pub cand-holds : (ts : List Float) (p c c' : ℕ) → p < 2 → (b : Closed) → b.cost ≤ 96 → (k : ℕ → ℤ) (cost key : ℕ) (dist : Float) (e : ℕ)
    → Cand ts p c k cost key dist e
    → (y : ℕ → ℤ) → RowOf p c' b y → Same (λ j. member (o_at p c j) (k j)) y → holds b cost key ≡ true
cand-holds ts p c c' P0 b B0 k cost key dist e C y R S =
    subst (λ (z : ℕ). holds b z key ≡ true) (sym cost_same)
    (subst (λ (z : ℕ). holds b (sum_to (λ j. sq (rank_at R.key j)) 8) z ≡ true) (sym key_same) R.within)
  where
    rank_same : (j : ℕ) → j < 8 → mark_k (o_at p c j) (k j) ≡ rank_at R.key j
    rank_same j h = ap mark_of (S j h ∙ R.at j h) ∙ rank_forth (o_at p c' j) (rank_at R.key j) (o_lt p c' j P0)
        (ranks-le (rank_at R.key) b B0 _ R.key refl R.within j h)

    cost_same : cost ≡ sum_to (λ j. sq (rank_at R.key j)) 8
    cost_same = C.shape.cost_is ∙ sum_same (λ j. sq (mark_k (o_at p c j) (k j))) (λ j. sq (rank_at R.key j)) 8 (λ j h. ap sq (rank_same j h))

    key_same : key ≡ R.key
    key_same = nib_ext 8 key R.key C.shape.key-lt R.key-lt (λ j h. C.shape.key_is j h ∙ rank_same j h)

module _ (ts : List Float) (p c : ℕ) (P0 : p < 2) (T0 : (j : ℕ) → j < 8 → Target (t_at ts j)) where
  abbrev e_r : List Coord
  e_r = row ts p c 0

  abbrev j_w : ℕ
  j_w = worst_to e_r 8

  abbrev k_r : ℕ → ℤ
  k_r j = (coord_at e_r j).k0

  row0 : Row ts p c e_r
  row0 = record {
    small = λ j h. (facts ts p c P0 T0 j h).small;
    slots = row-slots ts p c 0;
    d_is = row_d ts p c 0;
  }

  abbrev CandN : (ℕ → ℤ) → Candidate → Type 0
  CandN k n = Cand ts p c k n.cost n.key n.dist ES

  abbrev k22 : ℕ → ℕ → ℤ
  k22 i j = slot_k (k_r j) (slot_of i 2 j)

  abbrev k2 : ℕ → ℤ
  k2 j = slot_k (k_r j) 2

  both2 : (i : ℕ) → k22 i ≡ k2
  both2 i = fun_ext (λ j. ap (slot_k (k_r j)) (slot-plain i j))

  more : {k : ℕ → ℤ} {cost key : ℕ} {dist : Float} {e : ℕ} → e ≤ ES → Cand ts p c k cost key dist e → Cand ts p c k cost key dist ES
  more h C = record { small = C.small; shape = C.shape; near = near-more ES C.near h }

  own_cand : Cand ts p c k2 (now_to e_r 0 2 8).cost (now_to e_r 0 2 8).key (now_to e_r 0 2 8).dist (8 * (ET + H))
  own_cand = subst (λ (k : ℕ → ℤ). Cand ts p c k (now_to e_r 0 2 8).cost (now_to e_r 0 2 8).key (now_to e_r 0 2 8).dist (8 * (ET + H)))
      (both2 0) (now_cand ts p c P0 T0 e_r row0 0 2 (lit≤ tt))

  abbrev f_w : ℕ
  f_w = toward_of (coord_at e_r j_w).dir

  abbrev k_t : ℕ → ℤ
  k_t j = slot_k (k_r j) (slot_of j_w f_w j)

  at_W : k_t j_w ≡ slot_k (k_r j_w) f_w
  at_W = ap (slot_k (k_r j_w)) (slot_at j_w f_w)

  w8 : j_w < 8
  w8 = worst-lt e_r 8 (le_refl 8)

  k_t_small : nat_abs (k_t j_w) < 31
  k_t_small = subst (λ (z : ℤ). nat_abs z < 31) (sym at_W) (slot_small (k_r j_w) f_w (row0.small j_w w8) (mid-lt (toward_mid (coord_at e_r j_w).dir)))

  k_t_off : (j : ℕ) → j < 8 → j ≢ j_w → k_t j ≡ k2 j
  k_t_off j h d = ap (slot_k (k_r j)) (slot_off j_w f_w j d)

  stepped-cand : CandN k_t (stepped (coord_at e_r j_w) (now_to e_r 0 2 8) j_w)
  unfolding stepped
  stepped-cand =
      let n = now_to e_r 0 2 8 in
      let f5 = mid-lt (toward_mid (coord_at e_r j_w).dir) in
      let C = more (lit≤ tt) (step-cand ts p c P0 T0 k2 k_t j_w w8 k_t_small k_t_off n.cost n.key n.dist (8 * (ET + H)) (lit≤ tt) own_cand) in
      record {
        small = C.small;
        shape = stepped-shape p c e_r row0.slots;
        near =
            subst (λ (d : Float). Near U d (sum_to (λ j. sq_v (member (o_at p c j) (k_t j)) (t_at ts j)) 8) 0 ES)
            (sym
            (ap₂ (λ (a b : Float). add binary64 (sub binary64 n.dist a) b) (row0.d_is j_w 2 w8 (lit≤ tt))
            (row0.d_is j_w f_w w8 f5 ∙ ap (λ (z : ℤ). sq_to (member (o_at p c j_w) z) (t_at ts j_w)) (sym at_W))))
            C.near;
      }

  pub base_cand : (r : ℕ) → CandN (b_k ts p c P0 T0 r) (base_now e_r r)
  unfolding base_now
  base_cand r = go (eqb (par_to e_r 8) r)
    where
      go : (b : Bool) → CandN (λ j. slot_k (k_r j) (slot_of j_w (cond b 2 f_w) j)) (cond b (now_to e_r 0 2 8) (stepped (coord_at e_r j_w) (now_to e_r 0 2 8) j_w))
      go true = subst (λ (k : ℕ → ℤ). CandN k (now_to e_r 0 2 8)) (sym (both2 j_w)) (more (lit≤ tt) own_cand)
      go false = stepped-cand

  -- a base that is a member stands for its section
  pub base_good : (b : Closed) → b.cost ≤ 96 → (r : ℕ) → r < 2 → SoundB p c r ts (base_best b (base_now e_r r))
  base_good b B0 r R0 h = cand-stands ts p c r P0 T0 b B0 (b_k ts p c P0 T0 r) (base_now e_r r).cost (base_now e_r r).key
      (base_now e_r r).dist ES (le_refl ES) (base_cand r) (slot-class e_r j_w r w8 R0) h

  -- the section of the base
  abbrev b_s : ℕ → ℕ → ℤ
  b_s r j = member (o_at p c j) (b_k ts p c P0 T0 r j)

  pub base_sec : (r : ℕ) → r < 2 → Sec p c r (b_s r)
  base_sec r h = record { k = b_k ts p c P0 T0 r; at = λ j l. refl; class = slot-class e_r j_w r w8 h }

  pub base_num : (r : ℕ) → Num (base_now e_r r).dist
  base_num r = near_num (base_cand r).near

  -- no section of this byte and class is nearer
  pub base_near : (r : ℕ) (y : ℕ → ℤ) → Sec p c r y → dist8 (b_s r) ts ≤ dist8 y ts + W3
  base_near r y s =
      le_trans (le_of_eq (sum_same (λ j. sq_v (b_s r j) (t_at ts j))
      (λ j. gap_k (o_at p c j) (b_k ts p c P0 T0 r j) (t_at ts j) * gap_k (o_at p c j) (b_k ts p c P0 T0 r j) (t_at ts j)) 8
      (λ j l. ap (λ (z : ℕ). z * z) (gap_is (o_at p c j) (b_k ts p c P0 T0 r j) (t_at ts j)))))
      (le_trans (base_best_lem ts p c P0 T0 r s.k s.class)
      (le_of_eq (ap (λ (z : ℕ). z + W3)
      (sum_same (λ j. gap_k (o_at p c j) (s.k j) (t_at ts j) * gap_k (o_at p c j) (s.k j) (t_at ts j)) (λ j. sq_v (y j) (t_at ts j)) 8
      (λ j l. sym (ap (λ (z : ℤ). sq_v z (t_at ts j)) (s.at j l) ∙ ap (λ (z : ℕ). z * z) (gap_is (o_at p c j) (s.k j) (t_at ts j))))))))

  -- with the margin: `own` says that a section of this byte and class as near as y's is y's
  module _ (r : ℕ) (R0 : r < 2) (y : ℕ → ℤ) (own : (s : ℕ → ℤ) → Sec p c r s → dist8 s ts ≤ dist8 y ts + M → Same s y) (b : Closed)
      (B0 : b.cost ≤ 96) (c' : ℕ) (Y : RowOf p c' b y) where
    -- a cheap base is a member
    pub cheap-member : Under (base_now e_r r).dist (dist8 y ts + ES) → holds b (base_now e_r r).cost (base_now e_r r).key ≡ true
    cheap-member x = cand-holds ts p c c' P0 b B0 (b_k ts p c P0 T0 r) (base_now e_r r).cost (base_now e_r r).key (base_now e_r r).dist ES
        (base_cand r) y Y
        (own (b_s r) (base_sec r R0) (le_trans (under-near (base_cand r).near x) (fits (dist8 y ts) ES M (lit≤ tt))))
      where
        fits : (d e m : ℕ) → e + e ≤ m → d + e + e ≤ d + m
        fits d e m h = omega arith

    -- y's own base is y's section, and cheap
    pub own_cheap : Sec p c r y → Under (base_now e_r r).dist (dist8 y ts + ES)
    own_cheap s =
        let S = own (b_s r) (base_sec r R0) (le_trans (base_near r y s) (add-le-add {c = W3} {d = M} (le_refl (dist8 y ts)) (lit≤ tt))) in
        near-under (dist8 y ts + ES) (base_cand r).near
        (le_of_eq (ap (λ (z : ℕ). z + ES)
        (sum_same (λ j. sq_v (b_s r j) (t_at ts j)) (λ j. sq_v (y j) (t_at ts j)) 8 (λ j l. ap (λ (z : ℤ). sq_v z (t_at ts j)) (S j l)))))
