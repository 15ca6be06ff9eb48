-- `resolve::end_start` meets its contract. Assumes nothing.
use Rattle.resolve.proofs.Answers.{started}
use Rattle.resolve.proofs.end_start.Goals as goal

pub returns : goal.returns
returns c =
    let s = c.args in
    started s.f s.b0 s.c0 s.b1 s.c1 c.nearer.ensures c.nearer-e.ensures c.infinite.ensures c.lowered.ensures
    c.lowered-lb.ensures c.settled.ensures
