-- The theorem in trio order and for any tables: where y is nearer to the target than every other lattice point, by the margin, and has a row in
-- each section, the search finds y.
use Rattle.std.specs.Prelude.{◌≡◌, ◌≢◌, true, ℕ, ◌+◌, ◌*◌, ◌%◌, ◌≤◌, ◌<◌, T, get_or, ℤ, Float}
use Rattle.std.proofs.Common.{sym, ◌∙◌, subst}
use mathlib.Core.List.{List, Memᴰ}
use Rattle.std.specs.Float.{nan, binary64}
use Rattle.std.specs.Float.Ieee.{fits}
use Rattle.std.specs.Float.Ieee.Scale.{finite}
use Rattle.search.specs.Tables.{Tables, class_of}
use Rattle.search.specs.Entries.{Rule}
use Rattle.search.specs.declared.Targets.{Targets}
use Rattle.search.specs.Parity.{Winner, search}
use Rattle.search.specs.declared.Closed.{Closed}
use Rattle.search.specs.Block.{sections, winner_at}
use Rattle.nearest.specs.Laws.Forms.{RowOf, RuleOk, at24}
use Rattle.nearest.specs.Laws.Lattice.{Sec, Point, Same, dist8, Margin, M, own1, own2, own3}
use Rattle.nearest.specs.Laws.Winner.{GoodTables, sec_of}
use Rattle.nearest.specs.Laws.Parities.{IsY}
use Rattle.nearest.specs.Laws.Premises.{MoreTables, HasRows, Target16, class-cost}
use Rattle.nearest.proofs.Premises.{all-facts, demand_three}
use Rattle.nearest.specs.Laws.Reach.{within4, row_small, below16}
use Rattle.nearest.specs.Laws.Sections.{LeechTrio, sq_dist24, Bytes, all24, sec1, sec2, sec3, up8, up16, up24, glue, glue1, glue2, glue3, point_of_lem, tt1, tt2, tt3, margin}

module _ (g : Tables) (B : Bytes g) (t : List Float) (ps : List ℕ) (PS : (q : ℕ) → Memᴰ q ps → q < 2) (y : List ℤ)
    (H24 : (z : List ℤ) (L : LeechTrio g z) → Memᴰ L.p ps → z ≢ y → sq_dist24 y t + M < sq_dist24 z t)
    (G0 : GoodTables g) (G1 : MoreTables g) (u : Rule) (U0 : RuleOk u) (L : LeechTrio g y) (I0 : Memᴰ L.p ps)
    (W : HasRows g L.p (point_of_lem g B y L))
    (fit : (j : ℕ) → j < 24 → T (fits binary64 (get_or t j nan))) (fin : (j : ℕ) → j < 24 → T (finite (get_or t j nan))) where
  abbrev Y : Point g L.p (sec1 y) (sec2 y) (sec3 y)
  Y = point_of_lem g B y L

  abbrev S : Targets
  S = sections t

  abbrev mar : Margin g S ps (sec1 y) (sec2 y) (sec3 y)
  mar = margin g B t ps PS y H24

  -- the target's section ts, which starts at the place `at 0`, is below 16
  small : (ts : List Float) (at : ℕ → ℕ) (c r : ℕ) (b : Closed) → b.cost ≤ 96 → (s : ℕ → ℤ) → RowOf L.p c b s → Sec L.p c r s
      → ((z : ℕ → ℤ) → Sec L.p c r z → dist8 z ts ≤ dist8 s ts + M → Same z s)
      → ((j : ℕ) → j < 8 → get_or ts j nan ≡ get_or t (at j) nan) → ((j : ℕ) → j < 8 → at j < 24) → (j : ℕ) → j < 8 → Target16 (get_or ts j nan)
  small ts at c r b B0 s R S own e up j h =
      below16 (s j) (get_or ts j nan) (subst (λ (x : Float). T (fits binary64 x)) (sym (e j h)) (fit (at j) (up j h)))
      (subst (λ (x : Float). T (finite x)) (sym (e j h)) (fin (at j) (up j h))) (row_small L.p c L.p-lt b B0 s R j h)
      (within4 ts L.p c r L.p-lt s own S j h)

  small1 : (j : ℕ) → j < 8 → Target16 (get_or S.t1 j nan)
  small1 =
      small S.t1 (λ j. j) (get_or g.pre (2 * Y.s8 + Y.b1) 0) Y.r1 (class_of g Y.r1) (class-cost g G1 Y.r1) (sec1 y) W.one
      Y.sec1 (own1 g S ps L.p I0 (sec1 y) (sec2 y) (sec3 y) Y mar Y.b1 Y.b1-lt) (tt1 g B t) (λ j. up8)

  small2 : (j : ℕ) → j < 8 → Target16 (get_or S.t2 j nan)
  small2 =
      small S.t2 (λ j. 8 + j) (get_or g.mid (Y.s8 * 16 + Y.b2) 0) Y.r2 g.mixed G1.cost_m (sec2 y) W.two Y.sec2
      (own2 g S ps L.p I0 (sec1 y) (sec2 y) (sec3 y) Y mar) (tt2 g B t) (λ j. up16)

  small3 : (j : ℕ) → j < 8 → Target16 (get_or S.t3 j nan)
  small3 =
      let r = (L.p + Y.r1 + Y.r2) % 2 in
      small S.t3 (λ j. 16 + j) (get_or g.suf (2 * get_or g.nxt (Y.s8 * 16 + Y.b2) 0 + Y.b3) 0) r (class_of g r) (class-cost g G1 r)
      (sec3 y) W.three Y.sec3 (own3 g S ps L.p I0 (sec1 y) (sec2 y) (sec3 y) Y mar Y.b3 Y.b3-lt) (tt3 g B t) (λ j. up24)

  is_y : IsY g u S G0 ps PS (λ q i. all-facts g G1 u U0 S small1 small2 small3 q (PS q i)) (sec1 y) (sec2 y) (sec3 y) mar (search g u S ps)
  is_y = demand_three g G0 G1 u U0 S small1 small2 small3 ps PS L.p I0 (sec1 y) (sec2 y) (sec3 y) Y W mar

  pub point_at_lem : (j : ℕ) → j < 24 → winner_at (search g u (sections t) ps) j ≡ at24 y j
  unfolding glue
  point_at_lem = all24 (λ j. winner_at (search g u (sections t) ps) j ≡ at24 y j)
      (λ j h. glue1 (sec_of w.p w.s1) (sec_of w.p w.s2) (sec_of w.p w.s3) j h ∙ is_y.one j h)
      (λ j h. glue2 (sec_of w.p w.s1) (sec_of w.p w.s2) (sec_of w.p w.s3) j h ∙ is_y.two j h)
      (λ j h. glue3 (sec_of w.p w.s1) (sec_of w.p w.s2) (sec_of w.p w.s3) j h ∙ is_y.three j h)
    where
      w : Winner
      w = search g u (sections t) ps

  pub is_found : (search g u (sections t) ps).found ≡ true
  is_found = is_y.found
