-- `root::root_above_zero` meets its contract: the steps, one after another. Assumes nothing.
use Rattle.root.proofs.Whole.{nearest, bits_no_nan}
use Rattle.root.proofs.root_above_zero.Goals as goal

pub float_from_bits-result : goal.float_from_bits-result
float_from_bits-result c =
    bits_no_nan c.taken_apart.ensures c.evened-p.ensures
    c.raised-q.ensures c.root_digits.ensures c.picked-r.ensures

pub returns : goal.returns
returns c =
    nearest c.taken_apart.ensures c.evened-p.ensures
    c.raised-q.ensures c.root_digits.ensures c.picked-r.ensures
