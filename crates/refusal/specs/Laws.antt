-- No reason has number 0, which is that of a call that is accepted, and none one above 14. Assumes nothing.
use Rattle.std.specs.Prelude.{◌≡◌, ◌≤◌}
use Rattle.std.proofs.Common.{arith}
use Rattle.refusal.specs.declared.Refusal.{Refusal}
use Rattle.refusal.specs.declared.Refusal.TheVariants.{NotFinite, TooLarge, NoScale, TooFar, MixedParity, TooWide, OutOfRange, NoRoom, NoPage, NoCodeword, Outside, WrongSum, AllOdd, Disagrees}
use Rattle.refusal.specs.Refusal.{number_of}

pub never_0 : (r : Refusal) → number_of r ≡ 0 → ⊥
never_0 NotFinite h = absurd (omega arith)
never_0 TooLarge h = absurd (omega arith)
never_0 NoScale h = absurd (omega arith)
never_0 TooFar h = absurd (omega arith)
never_0 MixedParity h = absurd (omega arith)
never_0 TooWide h = absurd (omega arith)
never_0 OutOfRange h = absurd (omega arith)
never_0 NoRoom h = absurd (omega arith)
never_0 NoPage h = absurd (omega arith)
never_0 NoCodeword h = absurd (omega arith)
never_0 (Outside section) h = absurd (omega arith)
never_0 WrongSum h = absurd (omega arith)
never_0 AllOdd h = absurd (omega arith)
never_0 Disagrees h = absurd (omega arith)

-- and none has one above 14
pub number-le : (r : Refusal) → number_of r ≤ 14
number-le NotFinite = omega arith
number-le TooLarge = omega arith
number-le NoScale = omega arith
number-le TooFar = omega arith
number-le MixedParity = omega arith
number-le TooWide = omega arith
number-le OutOfRange = omega arith
number-le NoRoom = omega arith
number-le NoPage = omega arith
number-le NoCodeword = omega arith
number-le (Outside section) = omega arith
number-le WrongSum = omega arith
number-le AllOdd = omega arith
number-le Disagrees = omega arith
