-- `solve::step` meets its contract: a candidate that is no nearer, one that is nearer and a member, one that is nearer and none. Assumes nothing.
use Prim.Native.Nat.{ℕ}
use mathlib.Core.Path.{◌≡◌, ◌∙◌, sym}
use mathlib.Core.Bool.{Bool, true, false, cond}
use lib.ListN.{get_or}
use lib.Ieee.{Float, le}
use Rattle.search.specs.declared.Closed.{Closed}
use Rattle.search.specs.declared.Best.{Best}
use Rattle.search.specs.declared.Candidate.{Candidate}
use Rattle.search.specs.Bound.{holds}
use Rattle.search.specs.Solve.{key_moved}
use Rattle.coord.specs.declared.Rows.{Rows}
use Rattle.solve.specs.Inner.Flat.{step_in, cost_in}
use Rattle.solve.proofs.step.Goals as goal

module _ (d : Float) (rows : Rows) (bound : Closed) (n : Candidate) (best : Best) (j a a2 j2 b b2 : ℕ) where
  far : le best.d d ≡ true → best ≡ step_in d rows bound n best j a a2 j2 b b2
  unfolding step_in
  far h = simp h

  near : {cost key : ℕ} {h : Bool} → le best.d d ≡ false → cost ≡ cost_in rows n.cost a a2 b b2
      → key ≡ key_moved n.key j (get_or rows.rank a2 0) j2 (get_or rows.rank b2 0) → h ≡ holds bound cost key → (met : Bool) → h ≡ met
      → cond met (record { d = d; key = key; met = true }) best ≡ step_in d rows bound n best j a a2 j2 b b2
  unfolding step_in
  near l hc hk hh met e = simp (l, hk, (rw (hc, hk) at (sym hh ∙ e)))

pub returns-then-d-best : goal.returns-then-d-best
returns-then-d-best c =
    let s = c.args in
    far s.d s.rows.now s.bound s.n s.best s.a.j s.a.from s.a.to s.b.j s.b.from s.b.to c.if-d-best.true

pub returns-then-holds : goal.returns-then-holds
returns-then-holds c =
    let s = c.args in
    near s.d s.rows.now s.bound s.n s.best s.a.j s.a.from s.a.to s.b.j s.b.from s.b.to
    c.if-d-best.false
    (simp (
      c.weight_at.ensures.0,
      c.weight_at-2.ensures.0,
      c.weight_at-3.ensures.0,
      c.weight_at-4.ensures.0,
    ))
    (c.key_moved-key.ensures ∙ simp (c.rank_at.ensures.0, c.rank_at-2.ensures.0))
    c.holds.ensures true c.if-holds.true

pub returns : goal.returns
returns c =
    let s = c.args in
    near s.d s.rows.now s.bound s.n s.best s.a.j s.a.from s.a.to s.b.j s.b.from s.b.to
    c.if-d-best.false
    (simp (
      c.weight_at.ensures.0,
      c.weight_at-2.ensures.0,
      c.weight_at-3.ensures.0,
      c.weight_at-4.ensures.0,
    ))
    (c.key_moved-key.ensures ∙ simp (c.rank_at.ensures.0, c.rank_at-2.ensures.0))
    c.holds.ensures false c.if-holds.false
