-- A turn of each loop is a step of its definition. Assumes nothing.
use Rattle.std.proofs.Common.{◌≡◌, cond, ◌&&◌, List, ℕ, suc, ◌/◌, ◌%◌, get_or, ◌∙◌, ap, ap₂}
use Rattle.std.specs.Prelude.{Float, set}
use Rattle.std.specs.Float.{nan}
use Rattle.std.specs.Float.Ieee.{lt, le}
use Rattle.std.proofs.Math.ListN.{replicate, length-replicate, get_or-replicate}
use Rattle.laws.specs.Words.{tab}
use Rattle.laws.specs.Laws.Lists.{filled}
use Rattle.search.specs.declared.Sides.{Sides}
use Rattle.search.specs.declared.Way.{Way}
use Rattle.search.specs.declared.Bounds.{Bounds}
use Rattle.search.specs.Tables.{tables}
use Rattle.search.specs.Solve.{infinity}
use Rattle.search.specs.Join.{ent_at, way_at, keep, row_to, join_to, all_exact}
use Rattle.search.specs.Parity.{lower, bound_by, bounds_to}

-- one path more of a row
pub row_more : (p : ℕ) (s : Sides) (i1 : ℕ) (way : Way) (t : ℕ) {best x new : Way} → new ≡ way_at tables p s i1 t
    → best ≡ row_to tables p s i1 way t → x ≡ keep new best → x ≡ row_to tables p s i1 way (suc t)
unfolding row_to
row_more p s i1 way t hn hb hx = hx ∙ ap₂ keep hn hb

-- one end entry more of the join
pub join_more : (p : ℕ) (s : Sides) (n : ℕ) {best x : Way} → best ≡ join_to tables p s n
    → x ≡ cond (le best.cost (ent_at s.e1 n).value) best (row_to tables p s n best 32) → x ≡ join_to tables p s (suc n)
unfolding join_to
join_more p s n hb hx =
    hx ∙ ap (λ (b : Way). cond (le b.cost (ent_at s.e1 n).value) b (row_to tables p s n b 32)) hb

-- ---- the bounds
abbrev pub bounds_by : Float → List Float → List Float → List Float → Bounds
bounds_by u b1 b2 b3 = record { u = u; b1 = b1; b2 = b2; b3 = b3 }

-- before the first path
top_tab : (n : ℕ) {top : Float} → top ≡ infinity → replicate n top ≡ tab (λ (i : ℕ). infinity) n
top_tab n q =
    rw q (filled Float nan n (λ (i : ℕ). infinity) (replicate n infinity) (length-replicate n infinity) (λ k h. get_or-replicate n k infinity nan h))

bounds-eq : {u : Float} {b1 b2 b3 c1 c2 c3 : List Float} → b1 ≡ c1 → b2 ≡ c2 → b3 ≡ c3 → bounds_by u b1 b2 b3 ≡ bounds_by u c1 c2 c3
bounds-eq q1 q2 q3 = rw (q1, q2, q3)

pub bounds-none : (p : ℕ) (s : Sides) (u : Float) {top : Float} → top ≡ infinity
    → bounds_by u (replicate 128 top) (replicate 256 top) (replicate 128 top) ≡ bounds_to tables p s u 0
unfolding bounds_to
bounds-none p s u q = bounds-eq (top_tab 128 q) (top_tab 256 q) (top_tab 128 q)

-- one path more
pub bounds-more : (p : ℕ) (s : Sides) (u0 : Float) (n : ℕ) (w : Way) (b : Bounds)
    {u y1 y2 y3 : Float} → w ≡ way_at tables p s (n / 32) (n % 32) → b ≡ bounds_to tables p s u0 n
    → u ≡ cond (all_exact s w && lt w.cost b.u) w.cost b.u → y1 ≡ lower (get_or b.b1 w.i1 nan) w.cost → y2 ≡ lower (get_or b.b2 w.i2 nan) w.cost
    → y3 ≡ lower (get_or b.b3 w.i3 nan) w.cost
    → bounds_by u (set b.b1 w.i1 y1) (set b.b2 w.i2 y2) (set b.b3 w.i3 y3) ≡ bounds_to tables p s u0 (suc n)
unfolding bounds_to
bounds-more p s u0 n w b {u} {y1} {y2} {y3} hw hb q q1 q2 q3 = stored ∙ ap₂ (bound_by s) hb hw
  where
    stored : bounds_by u (set b.b1 w.i1 y1) (set b.b2 w.i2 y2) (set b.b3 w.i3 y3) ≡ bound_by s b w
    stored = rw (q, q1, q2, q3)
