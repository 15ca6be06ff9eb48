-- The numbers by which a call refuses bad input: document 01, "Numbers that answer a bad call", with what the requests of document 02 add:
-- 2026-01 to 2, 3 and 9; 2026-02 to 5, which it splits, and 10 to 12; 2026-04 adds to 9, and 14; 2026-06 13. A call that is accepted
-- carries 0. Assumes nothing.
use Rattle.std.specs.Prelude.{◌≡◌, refl, List, [], ◌∷◌, ℕ, Result, Ok, Err}
use Rattle.refusal.specs.declared.Refusal.{Refusal}
use Rattle.refusal.specs.declared.Refusal.TheVariants.{NotFinite, TooLarge, NoScale, TooFar, MixedParity, TooWide, OutOfRange, NoRoom, NoPage, NoCodeword, Outside, WrongSum, AllOdd, Disagrees}

-- a sample is a NaN or infinite
abbrev pub not_finite : ℕ
not_finite = 1

-- a sample's magnitude exceeds 1e290; one of a page that is written, 32767
abbrev pub too_large : ℕ
too_large = 2

-- the scale is not a finite number above 0; a page's num is not from 1 to 65535
abbrev pub no_scale : ℕ
no_scale = 3

-- a quotient of a sample by the scale exceeds 1e6 in magnitude
abbrev pub too_far : ℕ
too_far = 4

-- a point's coordinates are not all even or all odd
abbrev pub mixed_parity : ℕ
mixed_parity = 5

-- a field does not fit its width
abbrev pub too_wide : ℕ
too_wide = 6

-- a residue, a rank or a setting of the shrinks is out of its range, or a number has no root
abbrev pub out_of_range : ℕ
out_of_range = 7

-- a lent buffer is too short
abbrev pub no_room : ℕ
no_room = 8

-- a text is no page or no trace; there are too many blocks for a page
abbrev pub no_page : ℕ
no_page = 9

-- a point's bits are no codeword
abbrev pub no_codeword : ℕ
no_codeword = 10

-- a section of a point is outside its bound
abbrev pub outside : ℕ
outside = 11

-- a point's sum of k is even where it has to be odd, or odd where even
abbrev pub wrong_sum : ℕ
wrong_sum = 12

-- a word's p is 1, or a point's coordinates are all odd, where the even profile is asked
abbrev pub all_odd : ℕ
all_odd = 13

-- a summary and its page disagree
abbrev pub disagrees : ℕ
disagrees = 14

-- ---- all of them
abbrev pub numbers : List ℕ
numbers =
    not_finite ∷ too_large ∷ no_scale ∷ too_far ∷ mixed_parity ∷ too_wide ∷ out_of_range ∷ no_room ∷ no_page ∷ no_codeword ∷ outside ∷ wrong_sum
    ∷ all_odd ∷ disagrees ∷ []

-- they are the numbers of the documents, ascending, so no two reasons share one
pub as_listed : numbers ≡ 1 ∷ 2 ∷ 3 ∷ 4 ∷ 5 ∷ 6 ∷ 7 ∷ 8 ∷ 9 ∷ 10 ∷ 11 ∷ 12 ∷ 13 ∷ 14 ∷ []
as_listed = refl

-- ---- the number of each reason
abbrev pub number_of : Refusal → ℕ
number_of NotFinite = not_finite
number_of TooLarge = too_large
number_of NoScale = no_scale
number_of TooFar = too_far
number_of MixedParity = mixed_parity
number_of TooWide = too_wide
number_of OutOfRange = out_of_range
number_of NoRoom = no_room
number_of NoPage = no_page
number_of NoCodeword = no_codeword
number_of (Outside section) = outside
number_of WrongSum = wrong_sum
number_of AllOdd = all_odd
number_of Disagrees = disagrees

-- the section that a reason is about, counted from 1; 0 where it is about none
abbrev pub section_of : Refusal → ℕ
section_of (Outside section) = section
section_of r = 0

-- the number of an answer: 0 where the call is accepted
abbrev pub number_in : {A : Type 0} → Result A Refusal → ℕ
number_in (Ok x) = 0
number_in (Err r) = number_of r
