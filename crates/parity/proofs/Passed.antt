-- What the calls of a pass make together is the pass. Assumes nothing.
use mathlib.Core.Path.{◌≡◌}
use mathlib.Core.Bool.{cond}
use Prim.Native.Nat.{ℕ}
use lib.Ieee.{Float}
use Rattle.search.specs.declared.Bounds.{Bounds}
use Rattle.search.specs.declared.Sides.{Sides}
use Rattle.search.specs.Tables.{tables}
use Rattle.search.specs.Join.{join}
use Rattle.search.specs.Parity.{Winner, lower, bounds_to, winner_of}
use Rattle.parity.specs.declared.Head.{Head}
use Rattle.parity.specs.Inner.{head_of, Resolved, once_sides, closed_by, pass_of}

pub passed : (r1 r2 r3 : Resolved) (p : ℕ) (s : Sides) (u : Float) {h l : Head} {a c f : Sides} {x y : Float} {b : Bounds} {w : Winner}
    → h ≡ head_of p s → a ≡ once_sides r1 r2 r3 s h → x ≡ cond h.done (lower u h.cost) u
    → l ≡ cond h.done h (head_of p a) → c ≡ once_sides r1 r2 r3 a l → y ≡ cond l.done (lower x l.cost) x
    → b ≡ bounds_to tables p c y 4096 → f ≡ closed_by r1 r2 r3 c b → w ≡ winner_of p f (join tables p f)
    → w ≡ pass_of r1 r2 r3 p (record { sides = s; u = u })
unfolding pass_of
passed r1 r2 r3 p s u hh ha hx hl hc hy hb hf hw = rw (hw, hf, hb, hy, hc, hl, hx, ha, hh)
