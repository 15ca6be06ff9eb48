-- The fallbacks in the form that the code has: over their bytes and packed rows in lists, and the squares of a section made once. Laws proves them
-- equal to the definition in crate search. Assumes nothing.
use Rattle.std.specs.Prelude.{true, List, ℕ, zero, suc, ◌+◌, ◌*◌, ◌/◌, ◌%◌, get_or, Float}
use Rattle.std.specs.Float.{nan, binary64}
use Rattle.std.specs.Float.Ieee.{add, sub, mul, of_int}
use Rattle.laws.specs.Words.{tab}
use Rattle.rank.specs.Coord.{val_of}
use Rattle.float.specs.Value.{zero64}
use Rattle.search.specs.declared.Entry.{Entry}
use Rattle.search.specs.Record.{bit_at}
use Rattle.search.specs.Entries.{rank_at}

-- the members of a coordinate, at the pattern bit i / 4 and the rank i % 4
abbrev pub member_at : ℕ → ℕ → Float
member_at p i = of_int binary64 (val_of (p + 2 * (i / 4)) (i % 4))

unfoldable pub members_of : ℕ → List Float
members_of p = tab (member_at p) 8

-- the squared distance of member i % 8 to the target of coordinate i / 8
abbrev pub square_at : List Float → List Float → ℕ → Float
square_at ms ts i =
    mul binary64 (sub binary64 (get_or ms (i % 8) nan) (get_or ts (i / 8) nan)) (sub binary64 (get_or ms (i % 8) nan) (get_or ts (i / 8) nan))

unfoldable pub squares_of : List Float → List Float → List Float
squares_of ms ts = tab (square_at ms ts) 64

-- where the square of coordinate j stands, for byte c and packed row key
abbrev pub square_place : ℕ → ℕ → ℕ → ℕ
square_place c key j = 8 * j + 4 * bit_at c j + rank_at key j % 4

-- the squares of the first n coordinates, summed from +0.0 on
unfoldable pub sum_to : List Float → ℕ → ℕ → ℕ → Float
sum_to qs c key zero = zero64
sum_to qs c key (suc n) = add binary64 (sum_to qs c key n) (get_or qs (square_place c key n) nan)

-- place i of their bytes and packed rows
abbrev pub fallback_in : List ℕ → List ℕ → List Float → ℕ → Entry
fallback_in cs ks qs i =
    record { value = sum_to qs (get_or cs i 0) (get_or ks i 0) 8; exact = true; byte = get_or cs i 0; key = get_or ks i 0 }
