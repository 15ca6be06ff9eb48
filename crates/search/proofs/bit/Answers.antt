-- `search::bit` meets its contract: past the last bit a pattern has none. Assumes nothing.
use Rattle.std.proofs.Common.{◌≡◌, ◌/◌, ◌^◌, ◌<◌, refl, arith, lt_of_lt_of_le}
use Rattle.std.proofs.Math.Nat.{div-eq_of_lt}
use Rattle.std.proofs.Math.Pow.{pow_mono}
use Rattle.search.proofs.bit.Goals as goal

pub returns-else-j-lt8 : goal.returns-else-j-lt8
returns-else-j-lt8 c =
    let all : c.args.pattern < 2 ^ 8 = omega arith in
    let none : c.args.pattern / 2 ^ c.args.j ≡ 0 = div-eq_of_lt (lt_of_lt_of_le all (pow_mono c.if-j-lt8.false)) in
    (rw none refl, omega arith)
