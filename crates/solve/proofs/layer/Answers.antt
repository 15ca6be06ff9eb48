-- `solve::layer` meets its contract. What its three callees answer is the layer. Assumes nothing.
use Prim.Native.Nat.{ℕ}
use mathlib.Core.Path.{◌≡◌}
use mathlib.Core.List.{List}
use Rattle.search.specs.declared.Closed.{Closed}
use Rattle.search.specs.declared.Best.{Best}
use Rattle.search.specs.Solve.{kept_base}
use Rattle.coord.specs.declared.Rows.{Rows}
use Rattle.solve.specs.declared.Start.{Start}
use Rattle.solve.specs.Inner.Flat.{start_in, moved_from, layer_in}
use Rattle.solve.proofs.layer.Goals as goal

layered : (rows : Rows) (at : List ℕ) (want : ℕ) (bound : Closed)
    (best : Best) {s : Start} {b x : Best}
    → s ≡ start_in rows at want → b ≡ kept_base bound s.n best → x ≡ moved_from rows at bound s b
    → x ≡ layer_in rows at want bound best
unfolding layer_in
layered rows at want bound best hs hb hx = rw (hx, hb, hs)

pub returns : goal.returns
returns c =
    let s = c.args in
    layered s.rows.now s.at.now.at s.want s.bound s.best
    c.begin-s.ensures.0 c.kept-b.ensures c.moves.ensures
