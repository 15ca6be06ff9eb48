-- `parity::pass` meets its contract: what its calls make together is the pass. Assumes nothing.
use Prim.Native.Nat.{◌%◌}
use Rattle.resolve.specs.Inner.Flat.{end_full, mid_full}
use Rattle.parity.proofs.Passed.{passed}
use Rattle.parity.proofs.pass.Goals as goal

pub returns : goal.returns
returns c =
    let s = c.args in
    let b = s.block.now in
    passed (end_full b.first.now) (mid_full b.middle.now) (end_full b.last.now) (s.p % 2) s.sides.now s.u0
    c.lead-h.ensures c.resolve_path.ensures c.known-x.ensures c.next-l.ensures c.resolve_path-2.ensures c.known.ensures
    c.bounds-b.ensures c.close.ensures c.winner.ensures
