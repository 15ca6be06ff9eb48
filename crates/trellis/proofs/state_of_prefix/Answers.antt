-- The state and the bit that the way back finds, where they have the byte.
use native.Mathlib.Omega.{arith}
use Prim.Native.Nat.{◌/◌, ◌%◌}
use Rattle.trellis.specs.Laws.Code.{back_columns}
use Rattle.trellis.proofs.Ways.{open-found, open_none}
use Rattle.trellis.proofs.state_of_prefix.Goals as goal

pub returns-then-prefix-c1 : goal.returns-then-prefix-c1
returns-then-prefix-c1 c =
    let x = c.combine-x.result in
    let r = c.prefix in
    open-found c.args.c1 (x % 64) (x / 64 % 2) r.result r.ensures (omega arith) (omega arith) c.if-prefix-c1.true

pub returns : goal.returns
unfolding back_columns
returns c =
    let b = c.combine-x in
    let r = c.prefix in
    open_none c.args.c1 b.result r.result b.ensures r.ensures c.if-prefix-c1.false
