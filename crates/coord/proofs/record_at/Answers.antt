-- `coord::record_at` meets its contract. Assumes nothing.
use mathlib.Core.Path.{◌≡◌, ◌∙◌}
use mathlib.Core.List.{List}
use Prim.Native.Nat.{ℕ, ◌+◌, ◌*◌, ◌/◌, ◌%◌}
use native.Mathlib.Omega.{arith}
use lib.ListN.{get_or}
use lib.Ieee.{Float, nan}
use Rattle.search.specs.Record.{coord_of, shrinks}
use Rattle.coord.specs.Inner.Rows.{coord_in}
use Rattle.coord.proofs.record_at.Goals as goal

made : (ts : List Float) (p i : ℕ) {o : ℕ} {h : Float} → o ≡ p + 2 * (i % 2) → h ≡ get_or shrinks (i / 16) nan
    → coord_of (get_or ts (i / 2 % 8) nan) h o ≡ coord_in ts p i
unfolding coord_in
made ts p i ho hs = rw (ho, hs)

pub returns : goal.returns
returns c =
    let s = c.args in
    c.coord_of.ensures ∙ made s.t s.p s.i (omega arith) c.shrink_at.ensures
