-- `writer::is_wide` meets its contract. Assumes nothing.
use mathlib.Core.Path.{◌≡◌, sym, ap, ◌∙◌}
use native.Mathlib.Omega.{arith}
use borrow.Author.Rules.{rules}
use borrow.Author.Tests.{lt-ltb, le-ltb}
use mir.Syntax.{w32}
use mir.Val.{SFits}
use mir.Facts.{to_z-of_z}
use lib.IntN.{pos, nat_abs}
use lib.ListN.{length, get_or}
use Rattle.writer.proofs.Blocks.{wide_here, wide-next, wide_done}
use Rattle.writer.proofs.is_wide.Goals as goal
use Rattle.writer.proofs.is_wide.Goals.{After-magnitude}

-- the magnitude of sample j
magnitude_is : (c : After-magnitude) → c.magnitude.result ≡ nat_abs (get_or c.args.block c.loop-x.x-index (pos 0))
magnitude_is c =
    let z = get_or c.args.block c.loop-x.x-index (pos 0) in
    let f : SFits w32 z = search rules in
    c.magnitude.ensures.0 ∙ ap nat_abs (to_z-of_z f)

pub returns-then-magnitude-gt32767 : goal.returns-then-magnitude-gt32767
returns-then-magnitude-gt32767 c =
    let block = c.args.block in
    let at = c.loop-x in
    let n : length block ≡ 24 = search rules in
    let m = magnitude_is (goal.at.returns-then-magnitude-gt32767 c).After-magnitude in
    let e = lt-ltb 32767 (nat_abs (get_or block at.x-index (pos 0))) (omega (arith, c.if-magnitude-gt32767.true)) in
    sym (at.invariant ∙ wide_here block at.x-index (omega (arith, c.loop-x-test.true)) e)

pub loop-x-preserved : goal.loop-x-preserved
loop-x-preserved c =
    let block = c.args.block in
    let at = c.loop-x in
    let n : length block ≡ 24 = search rules in
    let m = magnitude_is (goal.at.loop-x-preserved c).After-magnitude in
    let e = le-ltb 32767 (nat_abs (get_or block at.x-index (pos 0))) (omega (arith, c.if-magnitude-gt32767.false)) in
    at.invariant ∙ wide-next block at.x-index (omega (arith, c.loop-x-test.true)) e

pub returns : goal.returns
returns c =
    let block = c.args.block in
    let at = c.loop-x in
    let n : length block ≡ 24 = search rules in
    sym (at.invariant ∙ wide_done block at.x-index (omega arith))
