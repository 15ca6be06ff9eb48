-- The flat forms are the definition: over the rows of a section's 128 records, `solve_in` is `solve` of crate search, and `pair_in` has its two
-- bases. Assumes nothing.
use Rattle.std.specs.Prelude.{◌≡◌, true, cond, List, eqb, pos}
use Rattle.std.proofs.Math.Path.{refl}
use Rattle.std.proofs.Common.{◌∙◌, sym}
use Rattle.std.proofs.Math.Bool.{Bool, false}
use Prim.Native.Nat.{ℕ, zero, suc, ◌+◌, ◌-◌, ◌*◌, ◌/◌, ◌%◌, ◌<◌, ◌≤◌, min}
use native.Mathlib.Omega.{arith}
use Rattle.std.specs.Int.Signed.{lt_z}
use Rattle.std.proofs.Math.ListN.{get_or}
use Rattle.std.specs.Float.Ieee.{Float, nan, lt}
use Rattle.laws.specs.Laws.Tests.{cond_same, cond_ap}
use Rattle.laws.specs.Words.{tab}
use Rattle.laws.specs.Laws.Lists.{tab_at}
use Rattle.laws.specs.Words.{mod_z}
use Rattle.search.specs.declared.Coord.{Coord}
use Rattle.search.specs.declared.Closed.{Closed}
use Rattle.search.specs.declared.Candidate.{Candidate}
use Rattle.search.specs.declared.Best.{Best}
use Rattle.search.specs.declared.Top.{Top}
use Rattle.search.specs.Record.{coord_of, coord_at, no_coord, shrinks, row, bit_at}
use Rattle.search.specs.Base.{slot_of, worst_to, par_to, now_to, stepped, base_now, base_best}
use Rattle.search.specs.Solve.{top_to, fix_of, step_of, other_of, move_at, moves_to, layer_of, layers_to, solve}
use Rattle.coord.specs.declared.Rows.{Rows}
use Rattle.coord.specs.Inner.Rows.{coord_in, table_of, regrets_of, dists_of, weights_of, ranks_of, odds_of, ups_of, rows_of}
use Rattle.solve.specs.Inner.Flat.{place_of, places_of, spot, top_in, regret_at, par_in, toward_in, fix_in, base_in, dist_in, step_in, turn_in}
use Rattle.solve.specs.Inner.Flat.{second_in, paired_in, moves_in, start_in, layer_in, layers_in, solve_in, stepped_in, base_for, pair_in}
use Rattle.solve.specs.Inner.{Apart, Flanked}

-- ---- the two largest regrets are of two different coordinates
apart-first : (a : Bool) → Apart (cond a (record { j0 = 1; j1 = 0 }) (record { j0 = 0; j1 = 1 })) 2
apart-first true = (omega arith, (omega arith, λ q. omega (arith, q)))
apart-first false = (omega arith, (omega arith, λ q. omega (arith, q)))

apart_more : (a b : Bool) (t : Top) (j : ℕ) → Apart t j
    → Apart (cond a (record { j0 = j; j1 = t.j0 }) (cond b (record { j0 = t.j0; j1 = j }) t)) (suc j)
apart_more true b t j h = (omega arith, (omega (arith, h.0), λ q. omega (arith, h.0, q)))
apart_more false true t j h = (omega (arith, h.0), (omega arith, λ q. omega (arith, h.0, q)))
apart_more false false t j h = (omega (arith, h.0), (omega (arith, h.1.0), h.1.1))

pub apart : (rows : Rows) (at : List ℕ) (n : ℕ) → Apart (top_in rows at n) (n + 2)
unfolding top_in
apart rows at zero = apart-first (lt (regret_at rows at 0) (regret_at rows at 1))
apart rows at (suc n) =
    let h = apart_more (lt (regret_at rows at (top_in rows at n).j0) (regret_at rows at (n + 2)))
    (lt (regret_at rows at (top_in rows at n).j1) (regret_at rows at (n + 2))) (top_in rows at n) (n + 2) (apart rows at n) in
    (omega (arith, h.0), (omega (arith, h.1.0), h.1.1))

-- the first of them is the coordinate that `base_pair` repairs
more_j0 : (a b : Bool) (t : Top) (j : ℕ) → cond a j t.j0 ≡ (cond a (record { j0 = j; j1 = t.j0 }) (cond b (record { j0 = t.j0; j1 = j }) t)).j0
more_j0 true b t j = refl
more_j0 false true t j = refl
more_j0 false false t j = refl

worst_two : (e : List Coord) (n : ℕ) → worst_to e (suc (suc n)) ≡ (top_to e n).j0
unfolding worst_to top_to
worst_two e zero =
    rw (cond_same ℕ (lt (coord_at e 0).regret (coord_at e 0).regret) 0)
    (cond_ap Top ℕ (λ t. t.j0) (lt (coord_at e 0).regret (coord_at e 1).regret) (record { j0 = 1; j1 = 0 }) (record { j0 = 0; j1 = 1 }))
worst_two e (suc n) =
    let l : ℕ → ℕ → Bool = λ i j. lt (coord_at e i).regret (coord_at e j).regret in
    let q : suc (suc n) ≡ n + 2 = omega arith in
    rw (worst_two e n, q) (more_j0 (l (top_to e n).j0 (n + 2)) (l (top_to e n).j1 (n + 2)) (top_to e n) (n + 2))

-- ---- slots
slot_flanked : (b : Bool) (fix : ℕ) → Flanked fix → Flanked (cond b fix 2)
slot_flanked true fix h = h
slot_flanked false fix h = (omega arith, omega arith)

toward_flanked : (b : Bool) → Flanked (cond b 3 1)
toward_flanked true = (omega arith, omega arith)
toward_flanked false = (omega arith, omega arith)

fix_flanked : (b d : Bool) → Flanked (cond b 2 (cond d 3 1))
fix_flanked true d = (omega arith, omega arith)
fix_flanked false d = toward_flanked d

pub other-lt : (b : Bool) (i j : ℕ) → i < 8 → j < 8 → cond b j i < 8
other-lt true i j hi hj = hj
other-lt false i j hi hj = hi

-- ---- a row of eight records that the flat rows hold at the places `at`
record RowAt (rows : Rows) (at : List ℕ) (e : List Coord) : Type 0 where
  pub regret_is : (j : ℕ) → j < 8 → regret_at rows at j ≡ (coord_at e j).regret
  pub dist_is : (j f : ℕ) → j < 8 → f < 5 → get_or rows.dist (spot at j f) nan ≡ get_or (coord_at e j).d f nan
  pub weight_is : (j f : ℕ) → j < 8 → f < 5 → get_or rows.weight (spot at j f) 0 ≡ get_or (coord_at e j).w f 0
  pub rank_is : (j f : ℕ) → j < 8 → f < 5 → get_or rows.rank (spot at j f) 0 ≡ get_or (coord_at e j).rank f 0
  pub odd_is : (j : ℕ) → j < 8 → get_or rows.odd (get_or at j 0) 0 ≡ mod_z (coord_at e j).k0 2
  pub up_is : (j : ℕ) → j < 8 → get_or rows.up (get_or at j 0) false ≡ lt_z (pos 0) (coord_at e j).dir

module _ {rows : Rows} {at : List ℕ} {e : List Coord} (h : RowAt rows at e) where
  top_is : (n : ℕ) → n ≤ 6 → top_in rows at n ≡ top_to e n
  unfolding top_in top_to
  top_is zero l = rw (h.regret_is 0 (omega arith), h.regret_is 1 (omega arith))
  top_is (suc n) l =
      let a = apart rows at n in
      rw (h.regret_is (top_in rows at n).j0 (omega (arith, a.0)), h.regret_is (top_in rows at n).j1 (omega (arith, a.1.0)))
      (rw (h.regret_is (n + 2) (omega arith), top_is n (omega arith)))

  par_is : (n : ℕ) → n ≤ 8 → par_in rows at n ≡ par_to e n
  unfolding par_in par_to
  par_is zero l = refl
  par_is (suc n) l = rw (h.odd_is n (omega arith), par_is n (omega arith))

  base_is : (j0 fix : ℕ) → Flanked fix → (n : ℕ) → n ≤ 8 → base_in rows at j0 fix n ≡ now_to e j0 fix n
  unfolding base_in now_to
  base_is j0 fix i zero l = refl
  base_is j0 fix i (suc n) l =
      let s = slot_flanked (eqb n j0) fix i in
      let l5 : slot_of j0 fix n < 5 = omega (arith, s.1) in
      rw (h.weight_is n (slot_of j0 fix n) (omega arith) l5, h.rank_is n (slot_of j0 fix n) (omega arith) l5)
      (rw (h.dist_is n (slot_of j0 fix n) (omega arith) l5, base_is j0 fix i n (omega arith)))

  -- one paired step
  step_is : (bound : Closed) (n : Candidate) (best : Best) (j f f' j2 g g' : ℕ) → j < 8 → f < 5 → f' < 5 → j2 < 8 → g < 5 → g' < 5
      → step_in (dist_in rows n.dist (spot at j f) (spot at j f') (spot at j2 g) (spot at j2 g')) rows bound n best
      j (spot at j f) (spot at j f') j2 (spot at j2 g) (spot at j2 g')
      ≡ step_of (coord_at e j) (coord_at e j2) bound n best j f f' j2 g g'
  unfolding step_in step_of
  step_is bound n best j f f' j2 g g' hj hf hf' hj2 hg hg' =
      rw (h.dist_is j f hj hf, h.dist_is j f' hj hf', h.dist_is j2 g hj2 hg, h.dist_is j2 g' hj2 hg')
      (rw (h.weight_is j f hj hf, h.weight_is j f' hj hf', h.weight_is j2 g hj2 hg, h.weight_is j2 g' hj2 hg')
      (rw (h.rank_is j f' hj hf', h.rank_is j2 g' hj2 hg')))

  -- step i of the sixteen is one of the two of turn i / 2
  module _ (top : Top) (fix : ℕ) (bound : Closed) (n : Candidate) (l0 : top.j0 < 8) (l1 : top.j1 < 8) (flanked : Flanked fix) where
    move_is : (best : Best) (i j j2 : ℕ) → i / 2 ≡ j → other_of j top.j0 top.j1 ≡ j2 → j < 8
        → step_in
        (dist_in rows n.dist (spot at j (slot_of top.j0 fix j)) (spot at j (slot_of top.j0 fix j + 2 * (i % 2) - 1))
        (spot at j2 (slot_of top.j0 fix j2)) (spot at j2 (second_in rows at (slot_of top.j0 fix j2) j2)))
        rows bound n best j (spot at j (slot_of top.j0 fix j)) (spot at j (slot_of top.j0 fix j + 2 * (i % 2) - 1))
        j2 (spot at j2 (slot_of top.j0 fix j2)) (spot at j2 (second_in rows at (slot_of top.j0 fix j2) j2))
        ≡ move_at e top fix bound n best i
    move_is best i j j2 q o l =
        let f = slot_flanked (eqb j top.j0) fix flanked in
        let g = slot_flanked (eqb j2 top.j0) fix flanked in
        let t = slot_flanked (eqb (slot_of top.j0 fix j2) 2) (toward_in rows at j2) (toward_flanked (get_or rows.up (get_or at j2 0) false)) in
        let m = other-lt (eqb j top.j0) top.j0 top.j1 l0 l1 in
        rw (q, o, ← h.up_is j2 (rw o at m))
        (step_is bound n best j (slot_of top.j0 fix j) (slot_of top.j0 fix j + 2 * (i % 2) - 1) j2 (slot_of top.j0 fix j2)
        (second_in rows at (slot_of top.j0 fix j2) j2)
        l (omega (arith, f.1)) (omega (arith, f.1)) (rw o at m) (omega (arith, g.1)) (omega (arith, t.1)))

    turn_is : (best : Best) (j : ℕ) → j < 8
        → paired_in rows at top fix bound n best j (other_of j top.j0 top.j1)
        ≡ move_at e top fix bound n (move_at e top fix bound n best (2 * j)) (suc (2 * j))
    unfolding turn_in
    turn_is best j l =
        let f = slot_flanked (eqb j top.j0) fix flanked in
        let d : spot at j (slot_of top.j0 fix j) - 1 ≡ spot at j (slot_of top.j0 fix j + 2 * (2 * j % 2) - 1) = omega (arith, f.0) in
        let u : spot at j (slot_of top.j0 fix j) + 1 ≡ spot at j (slot_of top.j0 fix j + 2 * (suc (2 * j) % 2) - 1) = omega arith in
        let p : 2 * j / 2 ≡ j = omega arith in
        let q : suc (2 * j) / 2 ≡ j = omega arith in
        rw (d, u) (rw (move_is best (2 * j) j (other_of j top.j0 top.j1) p refl l)
        (move_is (move_at e top fix bound n best (2 * j)) (suc (2 * j)) j (other_of j top.j0 top.j1) q refl l))

    moves_is : (start : Best) (j : ℕ) → j ≤ 8 → moves_in rows at top fix bound n start j ≡ moves_to e top fix bound n start (2 * j)
    unfolding moves_in moves_to
    moves_is start zero l = refl
    moves_is start (suc j) l =
        let d : 2 * suc j ≡ suc (suc (2 * j)) = omega arith in
        rw (moves_is start j (omega arith), d) (turn_is (moves_to e top fix bound n start (2 * j)) j (omega arith))

  -- ---- one shrink
  top_lt : (top_to e 6).j0 < 8
  top_lt = rw (top_is 6 (omega arith)) at (apart rows at 6).0

  top_lt1 : (top_to e 6).j1 < 8
  top_lt1 = rw (top_is 6 (omega arith)) at (apart rows at 6).1.0

  fix_is : (want : ℕ) (j0 : ℕ) → j0 < 8 → fix_in rows at want j0 ≡ fix_of e want j0
  fix_is want j0 l = rw (par_is 8 (omega arith), h.up_is j0 l)

  start_is : (want : ℕ)
      → start_in rows at want
      ≡ record { top = top_to e 6; fix = fix_of e want (top_to e 6).j0; n = now_to e (top_to e 6).j0 (fix_of e want (top_to e 6).j0) 8 }
  unfolding start_in
  start_is want =
      let f = fix_flanked (eqb (par_to e 8) want) (lt_z (pos 0) (coord_at e (top_to e 6).j0).dir) in
      rw (top_is 6 (omega arith), fix_is want (top_to e 6).j0 top_lt)
      (rw (base_is (top_to e 6).j0 (fix_of e want (top_to e 6).j0) f 8 (omega arith)))

  layer_is : (want : ℕ) (bound : Closed) (best : Best) → layer_in rows at want bound best ≡ layer_of e want bound best
  unfolding layer_in
  layer_is want bound best =
      rw (start_is want)
      (moves_is (top_to e 6) (fix_of e want (top_to e 6).j0) bound (now_to e (top_to e 6).j0 (fix_of e want (top_to e 6).j0) 8) top_lt top_lt1
      (fix_flanked (eqb (par_to e 8) want) (lt_z (pos 0) (coord_at e (top_to e 6).j0).dir))
      _ 8 (omega arith))

  -- ---- the base of a parity
  stepped_is : (s : Candidate) (j : ℕ) → j < 8 → stepped_in rows at s j ≡ stepped (coord_at e j) s j
  unfolding stepped_in stepped
  stepped_is s j l =
      let t = toward_flanked (get_or rows.up (get_or at j 0) false) in
      let l5 : toward_in rows at j < 5 = omega (arith, t.1) in
      rw (h.weight_is j 2 l (omega arith), h.weight_is j (toward_in rows at j) l l5, h.rank_is j (toward_in rows at j) l l5)
      (rw (h.dist_is j 2 l (omega arith), h.dist_is j (toward_in rows at j) l l5) (rw (h.up_is j l)))

  base_for_lem : (r : ℕ) → base_for rows at r ≡ base_now e r
  unfolding base_for base_now
  base_for_lem r =
      rw (par_is 8 (omega arith), base_is 0 2 (omega arith, omega arith) 8 (omega arith), top_is 6 (omega arith), worst_two e 6)
      (rw (stepped_is (now_to e 0 2 8) (top_to e 6).j0 top_lt))

-- ---- the rows of a section's table, read at the places of pattern c at shrink s
place_at : (c s j : ℕ) → j < 8 → get_or (places_of c s) j 0 ≡ place_of c s j
unfolding places_of
place_at c s j l = tab_at ℕ 0 (place_of c s) 8 j l

module _ (ts : List Float) (p c s : ℕ) (ls : s < 8) where
  place-lt : (j : ℕ) → j < 8 → get_or (places_of c s) j 0 < 128
  place-lt j l = rw (place_at c s j l) (omega arith)

  record_is : (j : ℕ) → j < 8 → coord_at (table_of ts p) (get_or (places_of c s) j 0) ≡ coord_at (row ts p c s) j
  unfolding table_of coord_in row
  record_is j l =
      let a : place_of c s j / 2 % 8 ≡ j = omega arith in
      let b : place_of c s j / 16 ≡ s = omega arith in
      let d : place_of c s j % 2 ≡ bit_at c j = omega arith in
      tab_at Coord no_coord (coord_in ts p) 128 (get_or (places_of c s) j 0) (place-lt j l) ∙ rw (place_at c s j l) (rw (a, b, d)
      (sym (tab_at Coord no_coord (λ (i : ℕ). coord_of (get_or ts i nan) (get_or shrinks s nan) (p + 2 * bit_at c i)) 8 j l)))

  -- slot f of the record at place i of a row of five slots a record
  slot_at : (A : Type 0) (d : A) (g : ℕ → ℕ → A) (j f : ℕ) → j < 8 → f < 5
      → get_or (tab (λ (i : ℕ). g (i / 5) (i % 5)) 640) (spot (places_of c s) j f) d ≡ g (get_or (places_of c s) j 0) f
  slot_at A d g j f l k =
      let q : spot (places_of c s) j f / 5 ≡ get_or (places_of c s) j 0 = omega arith in
      let r : spot (places_of c s) j f % 5 ≡ f = omega arith in
      tab_at A d (λ (i : ℕ). g (i / 5) (i % 5)) 640 (spot (places_of c s) j f) (omega (arith, place-lt j l)) ∙ rw (q, r)

  held : RowAt (rows_of (table_of ts p)) (places_of c s) (row ts p c s)
  unfolding rows_of regrets_of dists_of weights_of ranks_of odds_of ups_of
  held =
      let e = table_of ts p in
      record {
        regret_is = λ j l. tab_at Float nan (λ (i : ℕ). (coord_at e i).regret) 128 (get_or (places_of c s) j 0) (place-lt j l) ∙ rw (record_is j l);
        dist_is = λ j f l k. slot_at Float nan (λ (i f : ℕ). get_or (coord_at e i).d f nan) j f l k ∙ rw (record_is j l);
        weight_is = λ j f l k. slot_at ℕ 0 (λ (i f : ℕ). get_or (coord_at e i).w f 0) j f l k ∙ rw (record_is j l);
        rank_is = λ j f l k. slot_at ℕ 0 (λ (i f : ℕ). get_or (coord_at e i).rank f 0) j f l k ∙ rw (record_is j l);
        odd_is = λ j l. tab_at ℕ 0 (λ (i : ℕ). mod_z (coord_at e i).k0 2) 128 (get_or (places_of c s) j 0) (place-lt j l) ∙ rw (record_is j l);
        up_is = λ j l. tab_at Bool false (λ (i : ℕ). lt_z (pos 0) (coord_at e i).dir) 128 (get_or (places_of c s) j 0) (place-lt j l) ∙ rw (record_is j l);
      }

module _ (ts : List Float) (p c : ℕ) where
  abbrev e : List Coord
  e = table_of ts p

  layers_is : (want : ℕ) (bound : Closed) (n : ℕ) → n < 8
      → layers_in (rows_of e) c want bound n ≡ layers_to ts p c want bound n
  unfolding layers_in layers_to
  layers_is want bound zero l =
      layer_is (held ts p c 0 l) want bound _
  layers_is want bound (suc n) l =
      let q : n + 1 ≡ suc n = omega arith in
      rw (layers_is want bound n (omega arith), q)
      (layer_is (held ts p c (suc n) l) want bound _)

  -- the search over flat rows is the search
  pub solve_flat : (want : ℕ) (bound : Closed) (n : ℕ) → n ≤ 8
      → solve_in (rows_of e) c want bound n ≡ solve ts p c want bound n
  unfolding solve_in solve
  solve_flat want bound n l =
      let q : min n 8 ≡ n = omega arith in
      rw (q, layers_is want bound (n - 1) (omega arith), start_is (held ts p c 0 (omega arith)) want)

  -- and its pair of bases are the bases of an even and an odd sum
  pub pair_flat : (b0 b1 : Closed)
      → pair_in (rows_of e) c b0 b1
      ≡ record { even = base_best b0 (base_now (row ts p c 0) 0); odd = base_best b1 (base_now (row ts p c 0) 1) }
  unfolding pair_in
  pair_flat b0 b1 =
      let b = base_for_lem (held ts p c 0 (omega arith)) in
      rw (b 0, b 1)
