-- `join::Paths::best_way`: the row of this turn's end entry makes the best that of one end entry more. Assumes nothing.
use Rattle.std.proofs.Common.{add-one, arith}
use Rattle.search.specs.Join.{join_to}
use Rattle.join.proofs.Steps.{join_more}
use Rattle.join.proofs.Paths.best_way.Goals as goal

pub loop-i1-init : goal.loop-i1-init
unfolding join_to
loop-i1-init c = (omega arith, rw c.infinite.ensures)

pub loop-i1-preserved : goal.loop-i1-preserved
loop-i1-preserved c =
    (omega arith, rw add-one (join_more c.args.self.now.p c.args.self.now.sides.now _ c.loop-i1.invariant.1 c.entered-best.ensures))
