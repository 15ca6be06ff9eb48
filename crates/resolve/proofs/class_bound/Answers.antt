-- `resolve::class_bound` meets its contract, by the two cases of its test. Assumes nothing.
use mathlib.Core.Path.{◌∙◌, sym, ap}
use mathlib.Core.Bool.{Bool, cond}
use borrow.Author.Tests.{eq-eqb, ne_eqb}
use Rattle.rank.specs.Vector.{bound_cost, bound_cut}
use Rattle.search.specs.Tables.{tables}
use Rattle.resolve.proofs.Answers.{closed_is, turned0, turned1}
use Rattle.resolve.proofs.class_bound.Goals as goal

pub returns-then-r-eq0 : goal.returns-then-r-eq0
returns-then-r-eq0 c =
    closed_is (bound_cost 0) (bound_cut 0) turned0 c.class_bound.ensures c.closed_of.ensures
    ∙ sym (ap (λ (t : Bool). cond t tables.class0 tables.class1) (eq-eqb _ _ c.if-r-eq0.true))

pub returns : goal.returns
returns c =
    closed_is (bound_cost 1) (bound_cut 1) turned1 c.class_bound-2.ensures c.closed_of-2.ensures
    ∙ sym (ap (λ (t : Bool). cond t tables.class0 tables.class1) (ne_eqb _ _ c.if-r-eq0.false))
