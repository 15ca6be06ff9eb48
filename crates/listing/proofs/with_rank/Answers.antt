-- `listing::with_rank` meets its contract: the rank goes above what the row holds, so `|` is a sum. Assumes nothing.
use Prim.Native.Nat.{◌*◌, ◌^◌}
use native.Mathlib.Nat.{add_comm, mul_comm, mul-add}
use native.Mathlib.Omega.{arith}
use lib.Arith.{digits_lt}
use lib.Bits.{or_shifted_r}
use lib.Pow.{shl_exact, pow-add}
use Rattle.listing.proofs.with_rank.Goals as goal

pub returns : goal.returns
returns c =
    let a = c.args in
    let e = shl_exact 4 (4 * a.j) 32 c.requires.2 (omega arith) in
    let f = or_shifted_r a.r (4 * a.j) a.row c.requires.0 in
    (rw (e, f, add_comm a.row), rw (e, f, mul-add, pow-add 2 (4 * a.j) 4, mul_comm (2 ^ (4 * a.j)) (2 ^ 4)) (digits_lt c.requires.2 c.requires.0))
