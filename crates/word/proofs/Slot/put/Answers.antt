-- `Slot::put`: two numbers with no bit in common, joined by `|`, are their sum. Assumes nothing.
use mathlib.Core.Path.{◌∙◌}
use Prim.Native.Nat.{ℕ, ◌+◌, ◌*◌, ◌^◌, ◌<◌}
use native.Mathlib.Nat.{add_comm, mul_comm}
use lib.Arith.{digits_lt}
use lib.Bits.{or_shifted_r}
use lib.Pow.{shl_exact, pow-add}
use native.Mathlib.Omega.{arith}
use Rattle.word.proofs.Slot.put.Goals as goal

-- what lies below a field, and the field above it
above-lt : (below value lo width : ℕ) → below < 2 ^ lo → value < 2 ^ width → below + value * 2 ^ lo < 2 ^ (lo + width)
above-lt below value lo width hb hv =
    rw (add_comm below (value * 2 ^ lo), pow-add 2 lo width, mul_comm (2 ^ lo) (2 ^ width)) (digits_lt hv hb)

pub returns : goal.returns
returns c =
    let a = c.args in
    let pre = c.requires in
    let shl = shl_exact a.self.width a.self.lo 64 pre.1 (omega arith) in
    let or = or_shifted_r a.value a.self.lo a.below pre.0 ∙ add_comm (a.value * 2 ^ a.self.lo) a.below in
    (rw shl or, rw (shl, or) (above-lt a.below a.value a.self.lo a.self.width pre.0 pre.1))
