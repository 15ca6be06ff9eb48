-- Worked examples, computed. Assumes nothing.
use Rattle.std.specs.Prelude.{◌≡◌, refl, true, pos}
use Rattle.std.specs.Float.{fin, binary64}
use Rattle.std.specs.Float.Ieee.{of_bits, round, size}
use Rattle.float.specs.Value.{mag_units, zero64}
use Rattle.root.specs.Root.{whole_root, root_units, root_of, rooted}

-- 4.0 has the root 2.0; 2.0 has 1.4142135623730951; the least double, 2 ^ -1074, has 2 ^ -537
root_four : rooted (of_bits binary64 0x4010_0000_0000_0000) ≡ record { number = 0; root = of_bits binary64 0x4000_0000_0000_0000 }
unfolding rooted root_of root_units whole_root mag_units of_bits round size
root_four = refl

root-two : rooted (of_bits binary64 0x4000_0000_0000_0000) ≡ record { number = 0; root = of_bits binary64 0x3ff6_a09e_667f_3bcd }
unfolding rooted root_of root_units whole_root mag_units of_bits round size
root-two = refl

root_least : rooted (of_bits binary64 1) ≡ record { number = 0; root = of_bits binary64 0x1e60_0000_0000_0000 }
unfolding rooted root_of root_units whole_root mag_units of_bits round size
root_least = refl

-- the largest double
root-largest : rooted (of_bits binary64 0x7fef_ffff_ffff_ffff) ≡ record { number = 0; root = of_bits binary64 0x5fef_ffff_ffff_ffff }
unfolding rooted root_of root_units whole_root mag_units of_bits round size
root-largest = refl

-- -0.0 is its own root, and -1.0 has none
root-minus_zero : rooted (fin true 0 (pos 0)) ≡ record { number = 0; root = fin true 0 (pos 0) }
unfolding rooted
root-minus_zero = refl

root-minus_one : rooted (fin true 1 (pos 0)) ≡ record { number = 7; root = zero64 }
unfolding rooted
root-minus_one = refl
