-- `slices::samples_of` meets its contract. Assumes nothing.
use native.Mathlib.Omega.{arith}
use lib.Ieee.{Float, nan}
use Rattle.yultarvas.proofs.Fronts.{taken}
use Rattle.yultarvas.proofs.slices.samples_of.Goals as goal

pub returns : goal.returns
returns c =
    let l = c.loop-j in
    taken Float nan c.args.s.now l.out c.requires l.invariant.1 (λ k h. l.invariant.2 k (omega arith))
