-- One of the two suffix bytes of the state, or neither.
use native.Mathlib.Omega.{arith}
use Rattle.trellis.proofs.Ways.{close-outside, close-found, close-none}
use Rattle.trellis.proofs.suffix_of.Goals as goal

pub returns-then-s16-ge64 : goal.returns-then-s16-ge64
returns-then-s16-ge64 c = close-outside c.args.s16 c.args.c3 (omega arith)

pub returns-then-suffix-c3 : goal.returns-then-suffix-c3
returns-then-suffix-c3 c =
    let a = c.args in
    close-found a.s16 a.c3 0 c.suffix.result c.suffix.ensures (omega arith) (omega arith) c.if-suffix-c3.true

pub returns-then-suffix-c3-2 : goal.returns-then-suffix-c3-2
returns-then-suffix-c3-2 c =
    let a = c.args in
    close-found a.s16 a.c3 1 c.suffix-2.result c.suffix-2.ensures (omega arith) (omega arith) c.if-suffix-c3-2.true

pub returns : goal.returns
returns c =
    let a = c.args in
    let f = c.suffix in
    let g = c.suffix-2 in
    close-none a.s16 a.c3 f.result g.result f.ensures g.ensures c.if-suffix-c3.false c.if-suffix-c3-2.false
