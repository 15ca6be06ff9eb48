-- `tetra::to_natural`: the coordinates set so far. Assumes nothing.
use mathlib.Core.Path.{ap, sym, ◌∙◌}
use Prim.Native.Nat.{ℕ}
use native.Mathlib.Omega.{arith}
use mir.Syntax.{w32}
use mir.Val.{SFits}
use mir.Facts.{to_z-of_z}
use lib.ListN.{get_or}
use lib.IntN.{ℤ, pos}
use Rattle.trellis.specs.Laws.Trio.{trio-fits}
use Rattle.tetra.specs.Tetra.{natural}
use Rattle.tetra.specs.Laws.Orders.{natural-at, natural-length}
use Rattle.tetra.proofs.Rows.{laid_more, laid_all}
use Rattle.tetra.proofs.to_natural.Goals as goal

pub offset_bounds-t-j : goal.offset_bounds-t-j
offset_bounds-t-j c = omega (arith, c.place-j.ensures, (trio-fits c.loop-i.i (omega arith)).place-lt)

pub bounds-t-j : goal.bounds-t-j
bounds-t-j c = omega (arith, c.place-j.ensures, (trio-fits c.loop-i.i (omega arith)).place-lt)

pub loop-i-preserved : goal.loop-i-preserved
loop-i-preserved c =
    let l = c.loop-i in
    let t = c.args.t in
    let f : SFits w32 (get_or t c.place-j.result (pos 0)) = record { sfits = c.out-1.given } in
    laid_more ℤ (pos 0) (natural t) 24 l.out l.i _ l.invariant (omega arith)
    (to_z-of_z f ∙ ap (λ (n : ℕ). get_or t n (pos 0)) c.place-j.ensures ∙ sym (natural-at t l.i (omega arith)))

pub returns : goal.returns
returns c =
    let l = c.loop-i in
    let t = c.args.t in
    laid_all ℤ (pos 0) (natural t) 24 l.out l.i l.invariant (omega arith) (natural-length t)
