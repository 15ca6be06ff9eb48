-- `resolve::mid_resolve` meets its contract, by the cases of the first answer and of the number of shrinks. Assumes nothing.
use mathlib.Core.Path.{◌∙◌}
use native.Mathlib.Omega.{arith}
use Rattle.solve.specs.Inner.Flat.{solve_in}
use Rattle.search.specs.Tables.{tables}
use Rattle.resolve.proofs.Answers.{at_once, again, none_left, solve_eight}
use Rattle.resolve.proofs.mid_resolve.Goals as goal

pub returns-then-n-lt-SHRINKS : goal.returns-then-n-lt-SHRINKS
returns-then-n-lt-SHRINKS c =
    let s = c.args in
    again (solve_in s.rows.now) s.c s.d s.n
    c.mixed_bound-b.ensures c.solve-f.ensures c.in-Nothing.is c.solve.ensures c.mid_of.ensures

pub returns-in-At : goal.returns-in-At
returns-in-At c =
    let s = c.args in
    c.exact.ensures ∙ at_once (solve_in s.rows.now) s.c s.d s.n
    c.mixed_bound-b.ensures c.solve-f.ensures c.in-At.is

pub returns-else-n-lt-SHRINKS : goal.returns-else-n-lt-SHRINKS
returns-else-n-lt-SHRINKS c =
    let s = c.args in
    none_left (solve_in s.rows.now) s.c s.d s.n
    c.mixed_bound-b.ensures c.solve-f.ensures c.in-Nothing.is
    (solve_eight s.rows.now s.c s.d tables.mixed s.n
    (omega arith)) c.infeasible.ensures
