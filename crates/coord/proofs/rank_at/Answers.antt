-- `coord::rank_at` meets its contract: half the magnitude is the rank. Assumes nothing.
use mathlib.Core.Path.{sym, ◌∙◌}
use native.Mathlib.Omega.{arith}
use Rattle.coord.proofs.Marks.{mark_low, mark_high}
use Rattle.coord.proofs.rank_at.Goals as goal

pub returns-then-a-le4194304 : goal.returns-then-a-le4194304
returns-then-a-le4194304 c =
    let s = c.args in
    (c.mark.ensures.0 ∙ sym (mark_low s.o s.kk (omega arith) (omega arith)), c.mark.ensures.1)

pub returns : goal.returns
returns c =
    let s = c.args in
    (c.mark-2.ensures.0 ∙ sym (mark_high s.o s.kk (omega arith) (omega arith)), c.mark-2.ensures.1)
