-- `root::root` meets its contract: a zero, a finite number above zero, anything else. Assumes nothing.
use mathlib.Core.Path.{sym, subst}
use lib.Dec.{T}
use lib.Ieee.{of_bits, div}
use Rattle.root.proofs.Whole.{above_of, rooted_zero, rooted-above, rooted_none}
use Rattle.root.proofs.root.Goals as goal

pub returns-then-x : goal.returns-then-x
unfolding of_bits
returns-then-x c = rooted_zero c.args.x (subst T (sym c.well_formed.0.1) tt) c.if-x.true

pub root_above_zero-requires : goal.root_above_zero-requires
unfolding of_bits div
root_above_zero-requires c =
    above_of c.args.x (subst T (sym c.well_formed.0.1) tt) c.if-x-2.true c.if-x-3.true

pub returns-then-x-3 : goal.returns-then-x-3
unfolding of_bits div
returns-then-x-3 c =
    rooted-above c.args.x c.root_above_zero.result (subst T (sym c.well_formed.0.1) tt)
    (above_of c.args.x (subst T (sym c.well_formed.0.1) tt) c.if-x-2.true c.if-x-3.true) c.root_above_zero.ensures

pub returns-else-x-3 : goal.returns-else-x-3
unfolding of_bits div
returns-else-x-3 c =
    rooted_none c.args.x (subst T (sym c.well_formed.0.1) tt) c.if-x.false (λ l m. subst T c.if-x-3.false m)

pub returns-else-x-2 : goal.returns-else-x-2
unfolding of_bits div
returns-else-x-2 c =
    rooted_none c.args.x (subst T (sym c.well_formed.0.1) tt) c.if-x.false (λ l m. subst T c.if-x-2.false l)
