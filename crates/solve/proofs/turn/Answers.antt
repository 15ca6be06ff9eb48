-- `solve::turn` meets its contract. One step after the other. Assumes nothing.
use Prim.Native.Nat.{ℕ, ◌+◌, ◌-◌}
use mathlib.Core.Path.{◌≡◌}
use Rattle.search.specs.declared.Closed.{Closed}
use Rattle.search.specs.declared.Best.{Best}
use Rattle.search.specs.declared.Candidate.{Candidate}
use Rattle.coord.specs.declared.Rows.{Rows}
use Rattle.solve.specs.Inner.Flat.{step_in, dist_in, turn_in}
use Rattle.solve.proofs.turn.Goals as goal

both : (rows : Rows) (bound : Closed) (n : Candidate) (best : Best) (j a j2 b b2 : ℕ) {down x : Best}
    → down ≡ step_in (dist_in rows n.dist a (a - 1) b b2) rows bound n best j a (a - 1) j2 b b2
    → x ≡ step_in (dist_in rows n.dist a (a + 1) b b2) rows bound n down j a (a + 1) j2 b b2
    → x ≡ turn_in rows bound n best j a j2 b b2
unfolding turn_in
both rows bound n best j a j2 b b2 d u = rw (u, d)

pub returns : goal.returns
returns c =
    let s = c.args in
    both s.rows.now s.bound s.n s.best s.j s.from s.b.j s.b.from s.b.to
    c.step-down.ensures c.step.ensures
