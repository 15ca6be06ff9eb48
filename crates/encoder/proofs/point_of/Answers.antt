-- `encoder::point_of` meets its contract. Assumes nothing.
use mathlib.Core.Path.{ap, ◌∙◌}
use native.Mathlib.Omega.{arith}
use borrow.Author.Rules.{rules}
use mir.Syntax.{w32}
use mir.Val.{SFits}
use mir.Facts.{to_z-of_z}
use Rattle.laws.specs.Laws.Filled.{fill_more, fill_all}
use Rattle.trellis.specs.Laws.Trio.{trio-fits}
use Rattle.search.specs.Parity.{winner_by}
use Rattle.search.specs.Block.{winner_at}
use Rattle.encoder.proofs.point_of.Goals as goal

pub overflow_cast-j : goal.overflow_cast-j
overflow_cast-j c = omega (arith, c.place-j.ensures, (trio-fits c.loop-i.i (omega arith)).place-lt)

pub in_trio-requires : goal.in_trio-requires
in_trio-requires c = omega (arith, c.place-j.ensures, (trio-fits c.loop-i.i (omega arith)).place-lt)

pub loop-i-preserved : goal.loop-i-preserved
loop-i-preserved c =
    let w = winner_by c.args.w in
    let f : SFits w32 c.in_trio.result = search rules in
    fill_more c.loop-i.invariant (omega arith)
    (to_z-of_z f ∙ c.in_trio.ensures ∙ ap (winner_at w) c.place-j.ensures)

pub returns : goal.returns
returns c = fill_all c.loop-i.invariant (omega arith)
