-- `solve::top_two` meets its contract. The invariant: the two coordinates are those of the first i + 2, and the two numbers beside them are
-- their regrets. Assumes nothing.
use Prim.Native.Nat.{ℕ, suc, ◌+◌}
use mathlib.Core.Path.{◌≡◌}
use mathlib.Core.Bool.{Bool, true, false, cond}
use mathlib.Core.List.{List}
use native.Mathlib.Numerals.{add-one}
use lib.ListN.{get_or}
use lib.Ieee.{Float, lt, nan}
use Rattle.search.specs.declared.Top.{Top}
use Rattle.coord.specs.declared.Rows.{Rows}
use Rattle.solve.specs.Inner.Flat.{top_in, regret_at}
use Rattle.laws.specs.Laws.Tests.{cond_ap}
use Rattle.solve.specs.Laws.{apart}
use native.Mathlib.Omega.{arith}
use Rattle.solve.proofs.top_two.Goals as goal

-- the answer by cases on the two tests
joined : (a b : Bool) (t : Top) (j : ℕ)
    → ◌≡◌ {A = Top} (record { j0 = cond a j t.j0; j1 = cond a t.j0 (cond b j t.j1) })
    (cond a (record { j0 = j; j1 = t.j0 }) (cond b (record { j0 = t.j0; j1 = j }) t))
joined true b t j = cc
joined false true t j = cc
joined false false t j = cc

first : (a : Bool) → ◌≡◌ {A = Top} (record { j0 = cond a 1 0; j1 = cond a 0 1 }) (cond a (record { j0 = 1; j1 = 0 }) (record { j0 = 0; j1 = 1 }))
first true = cc
first false = cc

module _ (rows : Rows) (at : List ℕ) where
  started : {a0 a1 j0 j1 : ℕ} {m0 m1 : Float} → a0 ≡ get_or at 0 0 → a1 ≡ get_or at 1 0
      → j0 ≡ cond (lt (get_or rows.regret a0 nan) (get_or rows.regret a1 nan)) 1 0 → j1 ≡ cond (lt (get_or rows.regret a0 nan) (get_or rows.regret a1 nan)) 0 1
      → m0 ≡ cond (lt (get_or rows.regret a0 nan) (get_or rows.regret a1 nan)) (get_or rows.regret a1 nan) (get_or rows.regret a0 nan)
      → m1 ≡ cond (lt (get_or rows.regret a0 nan) (get_or rows.regret a1 nan)) (get_or rows.regret a0 nan) (get_or rows.regret a1 nan)
      → (◌≡◌ {A = Top} (record { j0 = j0; j1 = j1 }) (top_in rows at 0)) × ((m0 ≡ regret_at rows at j0) × (m1 ≡ regret_at rows at j1))
  unfolding top_in
  started p0 p1 q0 q1 r0 r1 = (
    rw (q0, q1, p0, p1) (first (lt (regret_at rows at 0) (regret_at rows at 1))),
    (
      rw (r0, q0, p0, p1) (cond_ap ℕ Float (regret_at rows at) (lt (regret_at rows at 0) (regret_at rows at 1)) 1 0),
      rw (r1, q1, p0, p1) (cond_ap ℕ Float (regret_at rows at) (lt (regret_at rows at 0) (regret_at rows at 1)) 0 1),
    ),
  )

  turned : (n : ℕ) {k j0 j1 w3 x0 x1 : ℕ} {m0 m1 f3 y0 y1 : Float} → ◌≡◌ {A = Top} (record { j0 = j0; j1 = j1 }) (top_in rows at n)
      → m0 ≡ regret_at rows at j0 → m1 ≡ regret_at rows at j1 → k ≡ get_or at (n + 2) 0
      → w3 ≡ cond (lt m1 (get_or rows.regret k nan)) (n + 2) j1 → x1 ≡ cond (lt m0 (get_or rows.regret k nan)) j0 w3
      → f3 ≡ cond (lt m1 (get_or rows.regret k nan)) (get_or rows.regret k nan) m1 → y1 ≡ cond (lt m0 (get_or rows.regret k nan)) m0 f3
      → x0 ≡ cond (lt m0 (get_or rows.regret k nan)) (n + 2) j0 → y0 ≡ cond (lt m0 (get_or rows.regret k nan)) (get_or rows.regret k nan) m0
      → (◌≡◌ {A = Top} (record { j0 = x0; j1 = x1 }) (top_in rows at (suc n))) × ((y0 ≡ regret_at rows at x0) × (y1 ≡ regret_at rows at x1))
  unfolding top_in
  turned n {j0 = j0} {j1 = j1} q p0 p1 e h3 h1 g3 g1 h0 g0 =
      let r : ℕ → Float = regret_at rows at in (
        rw (← q) (rw (h0, h1, h3, p0, p1, e) (joined (lt (r j0) (r (n + 2))) (lt (r j1) (r (n + 2))) (record { j0 = j0; j1 = j1 }) (n + 2))),
        (
          rw (g0, h0, p0, e) (cond_ap ℕ Float r (lt (r j0) (r (n + 2))) (n + 2) j0),
          rw (g1, h1, g3, h3, p0, p1, e)
              (rw (cond_ap ℕ Float r (lt (r j1) (r (n + 2))) (n + 2) j1) (cond_ap ℕ Float r (lt (r j0) (r (n + 2))) j0
              (cond (lt (r j1) (r (n + 2))) (n + 2) j1))),
        ),
      )

pub loop-i-init : goal.loop-i-init
unfolding top_in
loop-i-init c =
    let s = c.args in (
      omega arith,
      started s.rows.now s.at.now.at c.place-a0.ensures.0 c.place-a1.ensures.0 c.which-j0.ensures c.which-j1.ensures c.which-m0.ensures
          c.which-m1.ensures,
    )

pub loop-i-preserved : goal.loop-i-preserved
loop-i-preserved c =
    let l = c.loop-i in
    let s = c.args in (
      omega arith,
      rw add-one (turned s.rows.now s.at.now.at l.i l.invariant.1.0 l.invariant.1.1.0 l.invariant.1.1.1
          c.place-k.ensures.0 c.which.ensures c.which-j1-in-loop-i.ensures c.which-in-loop-i.ensures c.which-m1-in-loop-i.ensures
          c.which-j0-in-loop-i.ensures c.which-m0-in-loop-i.ensures),
    )

pub returns : goal.returns
returns c =
    let s = c.args in
    let e : c.loop-i.i ≡ 6 = omega arith in
    let q = rw e at c.loop-i.invariant.1.0 in (q, rw (← q) at (apart s.rows.now s.at.now.at 6))
