-- `root::raised` meets its contract: four times n is the next n. Assumes nothing.
use native.Mathlib.Omega.{arith}
use Rattle.root.proofs.Loops.{raising-next}
use Rattle.root.proofs.raised.Goals as goal

pub loop-n-preserved : goal.loop-n-preserved
loop-n-preserved c =
    let at = c.loop-n in
    (raising-next c.args.m at.n at.h at.invariant.0 c.loop-n-test.true, omega arith)
