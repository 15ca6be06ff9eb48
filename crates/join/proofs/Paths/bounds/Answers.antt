-- `join::Paths::bounds`: the path of this turn lowers the bounds of the first n paths to those of one path more. Assumes nothing.
use Rattle.std.proofs.Common.{add-one, arith}
use Rattle.join.proofs.Steps.{bounds_by, bounds-none, bounds-more}
use Rattle.join.proofs.Paths.bounds.Goals as goal

pub loop-n-init : goal.loop-n-init
loop-n-init c = (omega arith, bounds-none c.args.self.now.p c.args.self.now.sides.now c.args.u0 c.infinite-top.ensures)

pub loop-n-preserved : goal.loop-n-preserved
loop-n-preserved c =
    let l = c.loop-n in (
      omega arith,
      rw add-one
          (bounds-more c.args.self.now.p c.args.self.now.sides.now c.args.u0 l.n c.way_at-way.result (bounds_by l.u l.b1 l.b2 l.b3)
          c.way_at-way.ensures.0 l.invariant.1 c.exact_cost-u.ensures c.lowest.ensures c.lowest-in-loop-n.ensures
          c.lowest-in-loop-n-2.ensures),
    )
