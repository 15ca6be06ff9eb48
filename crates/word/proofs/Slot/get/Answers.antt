-- `Slot::get`: a shift to the right is a quotient, a mask a remainder. Assumes nothing.
use mathlib.Core.Path.{◌≡◌}
use Prim.Native.Nat.{ℕ, ◌*◌, ◌/◌, ◌%◌, ◌^◌, ◌<◌}
use native.Mathlib.Nat.{one-mul, mod-eq_of_lt}
use lib.Bits.{and_mask, mask_lt}
use lib.Pow.{pow-lt}
use Rattle.word.specs.Word.{field_at}
use Rattle.word.proofs.Slot.get.Goals as goal

-- a one shifted by less than 64
one_shl : (k : ℕ) → k < 64 → (1 * 2 ^ k) % 2 ^ 64 ≡ 2 ^ k
one_shl k h = rw one-mul (mod-eq_of_lt (pow-lt h))

pub returns : goal.returns
unfolding field_at
returns c =
    let one = one_shl c.args.self.width c.requires.1 in
    (rw (one, and_mask), rw one (mask_lt (c.args.word / 2 ^ c.args.self.lo) c.args.self.width))
