-- The branch at the high half of the byte, where it has the byte.
use Prim.Native.Nat.{◌/◌}
use native.Mathlib.Omega.{arith}
use Rattle.trellis.proofs.Ways.{pass-outside, pass-found, pass-none}
use Rattle.trellis.proofs.branch_of.Goals as goal

pub returns-then-s8-ge64 : goal.returns-then-s8-ge64
returns-then-s8-ge64 c = pass-outside c.args.s8 c.args.c2 (omega arith)

pub returns-then-b-c2 : goal.returns-then-b-c2
returns-then-b-c2 c =
    let a = c.args in
    let b = c.branch-b in
    pass-found a.s8 a.c2 (a.c2 / 16) b.result b.ensures (omega arith) (omega arith) c.if-b-c2.true

pub returns : goal.returns
returns c =
    let a = c.args in
    let b = c.branch-b in
    pass-none a.s8 a.c2 b.result b.ensures (omega arith) c.if-b-c2.false
