-- `tetra::to_trio`: the coordinates set so far. Assumes nothing.
use mathlib.Core.Path.{ap, sym, ◌∙◌}
use Prim.Native.Nat.{ℕ}
use native.Mathlib.Omega.{arith}
use mir.Syntax.{w32}
use mir.Val.{SFits}
use mir.Facts.{to_z-of_z}
use lib.ListN.{get_or}
use lib.IntN.{ℤ, pos}
use Rattle.trellis.specs.Laws.Trio.{trio-fits}
use Rattle.tetra.specs.Lattice.{trio}
use Rattle.tetra.specs.Laws.Orders.{trio-at, trio-length}
use Rattle.tetra.proofs.Rows.{laid_more, laid_all}
use Rattle.tetra.proofs.to_trio.Goals as goal

pub offset_bounds-y-i : goal.offset_bounds-y-i
offset_bounds-y-i c = omega (arith, c.order-i.ensures, (trio-fits c.loop-j.j (omega arith)).order_lt)

pub bounds-y-i : goal.bounds-y-i
bounds-y-i c = omega (arith, c.order-i.ensures, (trio-fits c.loop-j.j (omega arith)).order_lt)

pub loop-j-preserved : goal.loop-j-preserved
loop-j-preserved c =
    let l = c.loop-j in
    let y = c.args.y in
    let f : SFits w32 (get_or y c.order-i.result (pos 0)) = record { sfits = c.out-1.given } in
    laid_more ℤ (pos 0) (trio y) 24 l.out l.j _ l.invariant (omega arith)
    (to_z-of_z f ∙ ap (λ (n : ℕ). get_or y n (pos 0)) c.order-i.ensures ∙ sym (trio-at y l.j (omega arith)))

pub returns : goal.returns
returns c =
    let l = c.loop-j in
    let y = c.args.y in
    laid_all ℤ (pos 0) (trio y) 24 l.out l.j l.invariant (omega arith) (trio-length y)
