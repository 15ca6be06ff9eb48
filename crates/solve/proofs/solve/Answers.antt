-- `solve::solve` meets its contract. The first shrink stands before the loop; the invariant: the best is that after the first shrink and i more.
-- Assumes nothing.
use mathlib.Core.Bool.{true, false}
use mathlib.Core.List.{List}
use native.Mathlib.Numerals.{add-one}
use Rattle.search.specs.declared.Closed.{Closed}
use Rattle.search.specs.declared.Best.{Best}
use Rattle.search.specs.declared.Found.{Found}
use Rattle.search.specs.Solve.{kept_base, unmet, found_of}
use Rattle.coord.specs.declared.Rows.{Rows}
use Rattle.solve.specs.declared.Start.{Start}
use Prim.Native.Nat.{ℕ, suc, ◌+◌, ◌-◌, min}
use mathlib.Core.Path.{◌≡◌, ◌∙◌, ap}
use Rattle.solve.specs.Inner.Flat.{places_of, start_in, moved_from, layer_in, layers_in, solve_in}
use native.Mathlib.Omega.{arith}
use Rattle.solve.proofs.solve.Goals as goal

module _ (rows : Rows) (pattern want : ℕ) (bound : Closed) where
  next : (i : ℕ) {at : List ℕ} {b x : Best} → at ≡ places_of pattern (i + 1) → b ≡ layers_in rows pattern want bound i
      → x ≡ layer_in rows at want bound b → x ≡ layers_in rows pattern want bound (suc i)
  unfolding layers_in
  next i ha hb hx = rw (← ha) (rw (← hb) hx)

  module _ {at : List ℕ} {s : Start} {b z : Best} (ha : at ≡ places_of pattern 0) (hs : s ≡ start_in rows at want)
      (hz : z ≡ unmet)
      (hb : b ≡ kept_base bound s.n z) where
    first : b ≡ kept_base bound s.n unmet
    first = hb ∙ ap (kept_base bound s.n) hz

    zeroth : {x : Best} → x ≡ moved_from rows at bound s b → x ≡ layers_in rows pattern want bound 0
    unfolding layers_in layer_in
    zeroth hx = rw (← ha) (rw (← hs) (rw (← first) hx))

    met_first : (n : ℕ) {x : Found} → b.met ≡ true → x ≡ found_of b → x ≡ found_of (solve_in rows pattern want bound n)
    unfolding solve_in
    met_first n hm hx = rw (← ha) (rw (← hs) (rw (← first) (rw hm (simp hm at hx))))

    unmet-first : (n : ℕ) {l : Best} {x : Found} → b.met ≡ false → l ≡ layers_in rows pattern want bound (min n 8 - 1)
        → x ≡ found_of l
        → x ≡ found_of (solve_in rows pattern want bound n)
    unfolding solve_in
    unmet-first n hm hl hx = rw (← ha) (rw (← hs) (rw (← first) (rw hm (rw (← hl) hx))))

pub returns-then-first : goal.returns-then-first
returns-then-first c =
    let s = c.args in
    met_first s.rows.now s.pattern s.want s.bound
    c.new-at.ensures c.begin-s.ensures.0 c.none-start.ensures c.kept-first.ensures
    s.n c.if-first.true c.answer.ensures

pub loop-i-init : goal.loop-i-init
loop-i-init c =
    let s = c.args in (
      omega arith,
      zeroth s.rows.now s.pattern s.want s.bound
          c.new-at.ensures c.begin-s.ensures.0 c.none-start.ensures c.kept-first.ensures
          c.moves-best.ensures,
    )

pub loop-i-preserved : goal.loop-i-preserved
loop-i-preserved c =
    let s = c.args in (
      omega arith,
      rw add-one (next s.rows.now s.pattern s.want
          s.bound c.loop-i.i c.new-to.ensures c.loop-i.invariant.1 c.layer-best.ensures),
    )

pub returns : goal.returns
returns c =
    let s = c.args in
    let e : c.loop-i.i ≡ c.more-i-end.result = omega arith in
    unmet-first s.rows.now s.pattern s.want s.bound
    c.new-at.ensures c.begin-s.ensures.0 c.none-start.ensures c.kept-first.ensures
    s.n c.if-first.false
    (rw (e, c.more-i-end.ensures.0) at c.loop-i.invariant.1) c.answer-2.ensures
