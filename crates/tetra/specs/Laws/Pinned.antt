-- The points of 71 words, written out as the Rust decodes them: of the 47 words of one set bit, the gain's
-- left out, and of 24 words in which every field is set, but p in half of them and the gain in every other. They
-- hold fast where each field stands in a word, the columns of the code, trio order, and the rows that these words
-- name: were one of them changed in definition and code together, a point here would be another. tools/pins.py
-- writes this file. Assumes nothing.
use Rattle.std.specs.Prelude.{◌≡◌, refl, List, [], ◌∷◌, map, ℕ, ◌^◌, ℤ, pos, negsuc}
use Rattle.laws.specs.Words.{tab}
use Rattle.word.specs.Word as word
use Rattle.rank.specs.Coord.{val_of}
use Rattle.rank.specs.Section.{point_at}
use Rattle.rows.specs.Rows.{rows}
use Rattle.rows.specs.Table.{row_ranks, middle_class, middle_row}
use Rattle.trellis.specs.Code.{columns}
use Rattle.trellis.specs.Trio.{order, places}
use Rattle.tetra.specs.Tetra.{codeword_at, third_class, ranks_at, trio_point, natural, trio_point_of, point_of}

-- ---- the coordinates that occur: p4 is 4, m4 is -4, o is 0
abbrev m7 : ℤ
m7 = negsuc 6

abbrev m6 : ℤ
m6 = negsuc 5

abbrev m5 : ℤ
m5 = negsuc 4

abbrev m4 : ℤ
m4 = negsuc 3

abbrev m3 : ℤ
m3 = negsuc 2

abbrev m2 : ℤ
m2 = negsuc 1

abbrev m1 : ℤ
m1 = negsuc 0

abbrev o : ℤ
o = pos 0

abbrev p1 : ℤ
p1 = pos 1

abbrev p2 : ℤ
p2 = pos 2

abbrev p3 : ℤ
p3 = pos 3

abbrev p4 : ℤ
p4 = pos 4

abbrev p5 : ℤ
p5 = pos 5

abbrev p6 : ℤ
p6 = pos 6

abbrev p7 : ℤ
p7 = pos 7

abbrev p8 : ℤ
p8 = pos 8

-- ---- a word and its point
abbrev has : ℕ → List ℤ → ℕ × List ℤ
has w y = (w, y)

abbrev pub one_bit : List (ℕ × List ℤ)
one_bit =
    has (2 ^ 0)
    (p1 ∷ p1 ∷ p1 ∷ p1 ∷ p1 ∷ p1 ∷ p1 ∷ p1 ∷ p1 ∷ p1 ∷ p1 ∷ p1
    ∷ p1 ∷ p1 ∷ p1 ∷ p1 ∷ p1 ∷ p1 ∷ p1 ∷ p1 ∷ p1 ∷ p1 ∷ p1 ∷ m3 ∷ [])
    ∷ has (2 ^ 1)
    (o ∷ o ∷ o ∷ o ∷ o ∷ o ∷ o ∷ o ∷ o ∷ o ∷ o ∷ o
    ∷ p4 ∷ o ∷ o ∷ o ∷ o ∷ o ∷ o ∷ o ∷ o ∷ o ∷ o ∷ p4 ∷ [])
    ∷ has (2 ^ 2)
    (o ∷ p2 ∷ p2 ∷ p2 ∷ o ∷ p2 ∷ o ∷ p2 ∷ o ∷ p2 ∷ o ∷ o
    ∷ o ∷ o ∷ o ∷ p2 ∷ o ∷ o ∷ o ∷ o ∷ o ∷ p2 ∷ o ∷ o ∷ [])
    ∷ has (2 ^ 3)
    (o ∷ p2 ∷ o ∷ p2 ∷ p2 ∷ o ∷ o ∷ o ∷ p2 ∷ o ∷ p2 ∷ o
    ∷ o ∷ o ∷ o ∷ p2 ∷ o ∷ o ∷ o ∷ o ∷ p2 ∷ p2 ∷ o ∷ o ∷ [])
    ∷ has (2 ^ 4)
    (p2 ∷ p2 ∷ o ∷ o ∷ p2 ∷ o ∷ o ∷ p2 ∷ o ∷ p2 ∷ o ∷ o
    ∷ o ∷ o ∷ o ∷ o ∷ o ∷ o ∷ o ∷ o ∷ p2 ∷ p2 ∷ p2 ∷ o ∷ [])
    ∷ has (2 ^ 5)
    (o ∷ p2 ∷ p2 ∷ p2 ∷ p2 ∷ p2 ∷ o ∷ o ∷ p2 ∷ o ∷ o ∷ p2
    ∷ o ∷ p2 ∷ o ∷ o ∷ o ∷ o ∷ o ∷ o ∷ o ∷ o ∷ o ∷ o ∷ [])
    ∷ has (2 ^ 6)
    (p2 ∷ p2 ∷ o ∷ o ∷ o ∷ p2 ∷ p2 ∷ p2 ∷ o ∷ p2 ∷ p2 ∷ o
    ∷ o ∷ o ∷ p2 ∷ o ∷ o ∷ o ∷ o ∷ o ∷ o ∷ o ∷ o ∷ o ∷ [])
    ∷ has (2 ^ 7)
    (o ∷ o ∷ o ∷ p2 ∷ p2 ∷ p2 ∷ p2 ∷ p2 ∷ o ∷ o ∷ p2 ∷ o
    ∷ o ∷ p2 ∷ o ∷ p2 ∷ o ∷ o ∷ o ∷ o ∷ o ∷ o ∷ o ∷ o ∷ [])
    ∷ has (2 ^ 8)
    (p2 ∷ p2 ∷ p2 ∷ p2 ∷ p2 ∷ o ∷ o ∷ p2 ∷ o ∷ o ∷ p2 ∷ o
    ∷ p2 ∷ o ∷ o ∷ o ∷ o ∷ o ∷ o ∷ o ∷ o ∷ o ∷ o ∷ o ∷ [])
    ∷ has (2 ^ 9)
    (o ∷ o ∷ o ∷ o ∷ o ∷ o ∷ o ∷ o ∷ o ∷ o ∷ p4 ∷ o
    ∷ p4 ∷ o ∷ o ∷ o ∷ o ∷ o ∷ o ∷ o ∷ o ∷ o ∷ o ∷ o ∷ [])
    ∷ has (2 ^ 10)
    (o ∷ o ∷ o ∷ o ∷ o ∷ o ∷ o ∷ p4 ∷ o ∷ o ∷ o ∷ o
    ∷ p4 ∷ o ∷ o ∷ o ∷ o ∷ o ∷ o ∷ o ∷ o ∷ o ∷ o ∷ o ∷ [])
    ∷ has (2 ^ 11)
    (o ∷ o ∷ o ∷ o ∷ p4 ∷ o ∷ o ∷ o ∷ o ∷ o ∷ o ∷ o
    ∷ p4 ∷ o ∷ o ∷ o ∷ o ∷ o ∷ o ∷ o ∷ o ∷ o ∷ o ∷ o ∷ [])
    ∷ has (2 ^ 12)
    (o ∷ o ∷ o ∷ p4 ∷ o ∷ o ∷ o ∷ o ∷ o ∷ o ∷ p4 ∷ o
    ∷ o ∷ o ∷ o ∷ o ∷ o ∷ o ∷ o ∷ o ∷ o ∷ o ∷ o ∷ o ∷ [])
    ∷ has (2 ^ 13)
    (o ∷ p4 ∷ o ∷ o ∷ o ∷ o ∷ o ∷ o ∷ o ∷ o ∷ o ∷ o
    ∷ p4 ∷ o ∷ o ∷ o ∷ o ∷ o ∷ o ∷ o ∷ o ∷ o ∷ o ∷ o ∷ [])
    ∷ has (2 ^ 14)
    (o ∷ o ∷ o ∷ o ∷ o ∷ o ∷ o ∷ p4 ∷ o ∷ o ∷ m4 ∷ o
    ∷ o ∷ o ∷ o ∷ o ∷ o ∷ o ∷ o ∷ o ∷ o ∷ o ∷ o ∷ o ∷ [])
    ∷ has (2 ^ 15)
    (o ∷ o ∷ p4 ∷ p4 ∷ o ∷ o ∷ o ∷ p4 ∷ o ∷ o ∷ p4 ∷ o
    ∷ o ∷ o ∷ o ∷ o ∷ o ∷ o ∷ o ∷ o ∷ o ∷ o ∷ o ∷ o ∷ [])
    ∷ has (2 ^ 16)
    (p4 ∷ o ∷ p4 ∷ p4 ∷ o ∷ o ∷ o ∷ o ∷ o ∷ o ∷ p4 ∷ o
    ∷ o ∷ o ∷ o ∷ o ∷ o ∷ o ∷ o ∷ o ∷ o ∷ o ∷ o ∷ o ∷ [])
    ∷ has (2 ^ 17)
    (o ∷ p4 ∷ o ∷ p4 ∷ p4 ∷ o ∷ o ∷ o ∷ o ∷ o ∷ m4 ∷ o
    ∷ o ∷ o ∷ o ∷ o ∷ o ∷ o ∷ o ∷ o ∷ o ∷ o ∷ o ∷ o ∷ [])
    ∷ has (2 ^ 18)
    (o ∷ o ∷ o ∷ o ∷ m4 ∷ o ∷ o ∷ p4 ∷ o ∷ o ∷ m4 ∷ o
    ∷ p4 ∷ o ∷ o ∷ o ∷ o ∷ o ∷ o ∷ o ∷ o ∷ o ∷ o ∷ o ∷ [])
    ∷ has (2 ^ 19)
    (p4 ∷ p4 ∷ p4 ∷ p4 ∷ o ∷ o ∷ o ∷ o ∷ o ∷ o ∷ m4 ∷ o
    ∷ p4 ∷ o ∷ o ∷ o ∷ o ∷ o ∷ o ∷ o ∷ o ∷ o ∷ o ∷ o ∷ [])
    ∷ has (2 ^ 20)
    (o ∷ o ∷ o ∷ o ∷ o ∷ p2 ∷ p2 ∷ o ∷ o ∷ p2 ∷ o ∷ o
    ∷ o ∷ p2 ∷ p2 ∷ p2 ∷ p2 ∷ o ∷ o ∷ o ∷ o ∷ p2 ∷ o ∷ o ∷ [])
    ∷ has (2 ^ 21)
    (o ∷ o ∷ o ∷ o ∷ o ∷ o ∷ p2 ∷ o ∷ p2 ∷ o ∷ o ∷ p2
    ∷ o ∷ o ∷ p2 ∷ p2 ∷ o ∷ p2 ∷ o ∷ o ∷ p2 ∷ p2 ∷ o ∷ o ∷ [])
    ∷ has (2 ^ 22)
    (o ∷ o ∷ o ∷ o ∷ o ∷ o ∷ p2 ∷ o ∷ o ∷ p2 ∷ o ∷ p2
    ∷ o ∷ p2 ∷ o ∷ o ∷ o ∷ o ∷ p2 ∷ o ∷ p2 ∷ p2 ∷ p2 ∷ o ∷ [])
    ∷ has (2 ^ 23)
    (o ∷ o ∷ o ∷ o ∷ o ∷ p2 ∷ o ∷ o ∷ p2 ∷ o ∷ o ∷ p2
    ∷ o ∷ p2 ∷ p2 ∷ o ∷ o ∷ o ∷ o ∷ p2 ∷ o ∷ p2 ∷ p2 ∷ o ∷ [])
    ∷ has (2 ^ 24)
    (o ∷ o ∷ o ∷ o ∷ o ∷ o ∷ o ∷ o ∷ o ∷ o ∷ o ∷ o
    ∷ o ∷ o ∷ o ∷ o ∷ o ∷ o ∷ p4 ∷ p4 ∷ o ∷ o ∷ o ∷ o ∷ [])
    ∷ has (2 ^ 25)
    (o ∷ o ∷ o ∷ o ∷ o ∷ o ∷ o ∷ o ∷ o ∷ o ∷ o ∷ o
    ∷ o ∷ o ∷ o ∷ o ∷ o ∷ p4 ∷ o ∷ p4 ∷ o ∷ o ∷ o ∷ o ∷ [])
    ∷ has (2 ^ 26)
    (o ∷ o ∷ o ∷ o ∷ o ∷ o ∷ o ∷ o ∷ o ∷ o ∷ o ∷ o
    ∷ o ∷ o ∷ o ∷ o ∷ p4 ∷ o ∷ o ∷ p4 ∷ o ∷ o ∷ o ∷ o ∷ [])
    ∷ has (2 ^ 27)
    (o ∷ o ∷ o ∷ o ∷ o ∷ o ∷ o ∷ o ∷ o ∷ o ∷ o ∷ o
    ∷ o ∷ o ∷ p4 ∷ o ∷ o ∷ o ∷ p4 ∷ o ∷ o ∷ o ∷ o ∷ o ∷ [])
    ∷ has (2 ^ 28)
    (o ∷ o ∷ o ∷ o ∷ o ∷ o ∷ o ∷ o ∷ o ∷ o ∷ o ∷ p4
    ∷ o ∷ o ∷ o ∷ o ∷ o ∷ o ∷ o ∷ p4 ∷ o ∷ o ∷ o ∷ o ∷ [])
    ∷ has (2 ^ 29)
    (o ∷ o ∷ o ∷ o ∷ o ∷ o ∷ o ∷ o ∷ o ∷ o ∷ o ∷ o
    ∷ o ∷ o ∷ o ∷ o ∷ o ∷ p4 ∷ m4 ∷ o ∷ o ∷ o ∷ o ∷ o ∷ [])
    ∷ has (2 ^ 30)
    (o ∷ o ∷ o ∷ o ∷ o ∷ o ∷ o ∷ o ∷ o ∷ o ∷ o ∷ o
    ∷ o ∷ p4 ∷ p4 ∷ o ∷ o ∷ p4 ∷ p4 ∷ o ∷ o ∷ o ∷ o ∷ o ∷ [])
    ∷ has (2 ^ 31)
    (o ∷ o ∷ o ∷ o ∷ o ∷ o ∷ p4 ∷ o ∷ o ∷ o ∷ o ∷ o
    ∷ o ∷ p4 ∷ p4 ∷ o ∷ o ∷ o ∷ p4 ∷ o ∷ o ∷ o ∷ o ∷ o ∷ [])
    ∷ has (2 ^ 32)
    (o ∷ o ∷ o ∷ o ∷ o ∷ o ∷ o ∷ o ∷ o ∷ o ∷ o ∷ p4
    ∷ o ∷ o ∷ p4 ∷ o ∷ p4 ∷ o ∷ m4 ∷ o ∷ o ∷ o ∷ o ∷ o ∷ [])
    ∷ has (2 ^ 33)
    (o ∷ o ∷ o ∷ o ∷ o ∷ o ∷ o ∷ o ∷ o ∷ o ∷ o ∷ o
    ∷ o ∷ o ∷ o ∷ o ∷ m4 ∷ p4 ∷ m4 ∷ p4 ∷ o ∷ o ∷ o ∷ o ∷ [])
    ∷ has (2 ^ 34)
    (o ∷ o ∷ o ∷ o ∷ o ∷ o ∷ p4 ∷ o ∷ o ∷ o ∷ o ∷ p4
    ∷ o ∷ p4 ∷ p4 ∷ o ∷ o ∷ o ∷ m4 ∷ p4 ∷ o ∷ o ∷ o ∷ o ∷ [])
    ∷ has (2 ^ 35)
    (o ∷ o ∷ o ∷ o ∷ o ∷ p2 ∷ o ∷ o ∷ p2 ∷ p2 ∷ o ∷ o
    ∷ o ∷ o ∷ o ∷ p2 ∷ o ∷ o ∷ o ∷ o ∷ p2 ∷ p2 ∷ p2 ∷ p2 ∷ [])
    ∷ has (2 ^ 36)
    (o ∷ o ∷ o ∷ o ∷ o ∷ o ∷ o ∷ o ∷ o ∷ o ∷ o ∷ o
    ∷ o ∷ o ∷ o ∷ o ∷ o ∷ o ∷ o ∷ o ∷ o ∷ o ∷ p4 ∷ p4 ∷ [])
    ∷ has (2 ^ 37)
    (o ∷ o ∷ o ∷ o ∷ o ∷ o ∷ o ∷ o ∷ o ∷ o ∷ o ∷ o
    ∷ o ∷ o ∷ o ∷ o ∷ o ∷ o ∷ o ∷ o ∷ o ∷ p4 ∷ o ∷ p4 ∷ [])
    ∷ has (2 ^ 38)
    (o ∷ o ∷ o ∷ o ∷ o ∷ o ∷ o ∷ o ∷ o ∷ o ∷ o ∷ o
    ∷ o ∷ o ∷ o ∷ o ∷ o ∷ o ∷ o ∷ o ∷ p4 ∷ o ∷ o ∷ p4 ∷ [])
    ∷ has (2 ^ 39)
    (o ∷ o ∷ o ∷ o ∷ o ∷ o ∷ o ∷ o ∷ o ∷ o ∷ o ∷ o
    ∷ o ∷ o ∷ o ∷ p4 ∷ o ∷ o ∷ o ∷ o ∷ o ∷ o ∷ p4 ∷ o ∷ [])
    ∷ has (2 ^ 40)
    (o ∷ o ∷ o ∷ o ∷ o ∷ o ∷ o ∷ o ∷ p4 ∷ o ∷ o ∷ o
    ∷ o ∷ o ∷ o ∷ o ∷ o ∷ o ∷ o ∷ o ∷ o ∷ o ∷ o ∷ p4 ∷ [])
    ∷ has (2 ^ 41)
    (o ∷ o ∷ o ∷ o ∷ o ∷ o ∷ o ∷ o ∷ o ∷ o ∷ o ∷ o
    ∷ o ∷ o ∷ o ∷ o ∷ o ∷ o ∷ o ∷ o ∷ o ∷ p4 ∷ m4 ∷ o ∷ [])
    ∷ has (2 ^ 42)
    (o ∷ o ∷ o ∷ o ∷ o ∷ o ∷ o ∷ o ∷ o ∷ p4 ∷ o ∷ o
    ∷ o ∷ o ∷ o ∷ p4 ∷ o ∷ o ∷ o ∷ o ∷ o ∷ p4 ∷ p4 ∷ o ∷ [])
    ∷ has (2 ^ 43)
    (o ∷ o ∷ o ∷ o ∷ o ∷ p4 ∷ o ∷ o ∷ o ∷ p4 ∷ o ∷ o
    ∷ o ∷ o ∷ o ∷ p4 ∷ o ∷ o ∷ o ∷ o ∷ o ∷ o ∷ p4 ∷ o ∷ [])
    ∷ has (2 ^ 44)
    (o ∷ o ∷ o ∷ o ∷ o ∷ o ∷ o ∷ o ∷ p4 ∷ o ∷ o ∷ o
    ∷ o ∷ o ∷ o ∷ p4 ∷ o ∷ o ∷ o ∷ o ∷ p4 ∷ o ∷ m4 ∷ o ∷ [])
    ∷ has (2 ^ 45)
    (o ∷ o ∷ o ∷ o ∷ o ∷ o ∷ o ∷ o ∷ o ∷ o ∷ o ∷ o
    ∷ o ∷ o ∷ o ∷ o ∷ o ∷ o ∷ o ∷ o ∷ m4 ∷ p4 ∷ m4 ∷ p4 ∷ [])
    ∷ has (2 ^ 46)
    (o ∷ o ∷ o ∷ o ∷ o ∷ p4 ∷ o ∷ o ∷ p4 ∷ p4 ∷ o ∷ o
    ∷ o ∷ o ∷ o ∷ p4 ∷ o ∷ o ∷ o ∷ o ∷ o ∷ o ∷ m4 ∷ p4 ∷ [])
    ∷ []

abbrev pub all_fields : List (ℕ × List ℤ)
all_fields =
    has 0x622d9f806953
    (p3 ∷ m1 ∷ m1 ∷ m1 ∷ p1 ∷ p3 ∷ p3 ∷ p3 ∷ p5 ∷ p3 ∷ m3 ∷ m1
    ∷ m1 ∷ m1 ∷ p1 ∷ m5 ∷ p1 ∷ p1 ∷ p5 ∷ p3 ∷ p1 ∷ m1 ∷ m1 ∷ p3 ∷ [])
    ∷ has 0x94bcd8ea95bb
    (m3 ∷ p1 ∷ m3 ∷ m7 ∷ m1 ∷ p1 ∷ m1 ∷ m1 ∷ m1 ∷ m1 ∷ p3 ∷ p1
    ∷ m1 ∷ p1 ∷ p1 ∷ m3 ∷ p1 ∷ m1 ∷ m1 ∷ p3 ∷ m5 ∷ m3 ∷ m3 ∷ p3 ∷ [])
    ∷ has 0x63dd9dc2d95f
    (m1 ∷ m1 ∷ m3 ∷ m1 ∷ p7 ∷ m3 ∷ p1 ∷ p1 ∷ p7 ∷ p3 ∷ m1 ∷ p5
    ∷ m1 ∷ m3 ∷ m3 ∷ m1 ∷ p1 ∷ p1 ∷ m1 ∷ m1 ∷ m3 ∷ p1 ∷ p1 ∷ m1 ∷ [])
    ∷ has 0xf5a98ab73fd3
    (m1 ∷ m1 ∷ p3 ∷ m7 ∷ p3 ∷ p3 ∷ m3 ∷ m3 ∷ m1 ∷ p1 ∷ m1 ∷ p1
    ∷ m1 ∷ m5 ∷ m3 ∷ m7 ∷ m1 ∷ p3 ∷ p1 ∷ m1 ∷ m5 ∷ m1 ∷ m1 ∷ m1 ∷ [])
    ∷ has 0x05ff082bddf7
    (p3 ∷ m5 ∷ m1 ∷ p1 ∷ p1 ∷ m1 ∷ p3 ∷ p3 ∷ m1 ∷ p1 ∷ p3 ∷ p1
    ∷ m5 ∷ p1 ∷ p1 ∷ m3 ∷ p5 ∷ p3 ∷ m3 ∷ m3 ∷ m5 ∷ p1 ∷ m3 ∷ m1 ∷ [])
    ∷ has 0x93497fb84543
    (p1 ∷ m3 ∷ p3 ∷ m1 ∷ m5 ∷ p1 ∷ p3 ∷ p5 ∷ m5 ∷ m1 ∷ m3 ∷ p1
    ∷ m1 ∷ m3 ∷ p5 ∷ m1 ∷ m1 ∷ m1 ∷ m3 ∷ m1 ∷ m3 ∷ m3 ∷ p1 ∷ p3 ∷ [])
    ∷ has 0x146bf6f8b51b
    (p1 ∷ p3 ∷ m5 ∷ m3 ∷ p3 ∷ m1 ∷ p3 ∷ p5 ∷ p5 ∷ m3 ∷ p1 ∷ p3
    ∷ m1 ∷ p3 ∷ m1 ∷ m3 ∷ p3 ∷ m1 ∷ p3 ∷ m5 ∷ m1 ∷ p3 ∷ p1 ∷ m1 ∷ [])
    ∷ has 0xdbfe3be839e3
    (p1 ∷ p3 ∷ m3 ∷ m1 ∷ p3 ∷ p3 ∷ p1 ∷ p7 ∷ m3 ∷ p3 ∷ m1 ∷ p1
    ∷ m1 ∷ m3 ∷ m1 ∷ p3 ∷ p1 ∷ m5 ∷ m5 ∷ m1 ∷ p3 ∷ p1 ∷ m5 ∷ p3 ∷ [])
    ∷ has 0x775ed16565bb
    (m3 ∷ m3 ∷ p5 ∷ p1 ∷ p3 ∷ m1 ∷ m1 ∷ m1 ∷ p1 ∷ p3 ∷ m1 ∷ m5
    ∷ p3 ∷ m1 ∷ m1 ∷ p1 ∷ m3 ∷ m1 ∷ m5 ∷ p1 ∷ m1 ∷ p3 ∷ p7 ∷ m5 ∷ [])
    ∷ has 0xaefbb16239cb
    (p5 ∷ m1 ∷ m1 ∷ p3 ∷ p3 ∷ m1 ∷ m3 ∷ m1 ∷ p3 ∷ m5 ∷ p1 ∷ p1
    ∷ m1 ∷ m3 ∷ m7 ∷ p1 ∷ p1 ∷ m1 ∷ m1 ∷ p1 ∷ m3 ∷ p1 ∷ p1 ∷ m5 ∷ [])
    ∷ has 0x05ac5c3a11f7
    (p3 ∷ m1 ∷ m1 ∷ p5 ∷ m3 ∷ p1 ∷ p5 ∷ m1 ∷ p3 ∷ p3 ∷ m5 ∷ p1
    ∷ p3 ∷ m1 ∷ m1 ∷ m1 ∷ p3 ∷ m5 ∷ p1 ∷ m3 ∷ m1 ∷ p3 ∷ p1 ∷ p3 ∷ [])
    ∷ has 0xf68ae216cba3
    (m1 ∷ p1 ∷ m3 ∷ m1 ∷ m1 ∷ m3 ∷ p1 ∷ m3 ∷ p1 ∷ m3 ∷ m7 ∷ p3
    ∷ p3 ∷ p3 ∷ m5 ∷ m1 ∷ m1 ∷ m3 ∷ m3 ∷ m3 ∷ m5 ∷ m3 ∷ m5 ∷ p3 ∷ [])
    ∷ has 0x29ae16d4cd92
    (p4 ∷ o ∷ m2 ∷ m4 ∷ m2 ∷ o ∷ p2 ∷ m2 ∷ p4 ∷ o ∷ o ∷ o
    ∷ p2 ∷ o ∷ o ∷ p2 ∷ m6 ∷ o ∷ m2 ∷ p2 ∷ m2 ∷ p2 ∷ p8 ∷ p2 ∷ [])
    ∷ has 0xf8bb096985ea
    (o ∷ p8 ∷ o ∷ o ∷ o ∷ o ∷ o ∷ m2 ∷ o ∷ m2 ∷ p4 ∷ p6
    ∷ m2 ∷ p2 ∷ o ∷ o ∷ o ∷ p6 ∷ m2 ∷ p4 ∷ p8 ∷ o ∷ p4 ∷ p6 ∷ [])
    ∷ has 0x5e98b36cf3ee
    (m4 ∷ p2 ∷ m2 ∷ m2 ∷ m4 ∷ m2 ∷ o ∷ o ∷ p4 ∷ p8 ∷ p4 ∷ p2
    ∷ p2 ∷ p2 ∷ p4 ∷ p2 ∷ m4 ∷ m2 ∷ p2 ∷ p4 ∷ o ∷ p2 ∷ o ∷ m2 ∷ [])
    ∷ has 0x8478c5dd153a
    (m4 ∷ o ∷ m4 ∷ m2 ∷ o ∷ m4 ∷ o ∷ p4 ∷ o ∷ o ∷ o ∷ p2
    ∷ m2 ∷ p4 ∷ o ∷ p2 ∷ m2 ∷ m4 ∷ p2 ∷ m2 ∷ o ∷ o ∷ o ∷ p2 ∷ [])
    ∷ has 0x518b902a3d6e
    (p4 ∷ p2 ∷ m2 ∷ o ∷ p2 ∷ p4 ∷ p4 ∷ m6 ∷ o ∷ m2 ∷ m2 ∷ o
    ∷ p2 ∷ m2 ∷ o ∷ o ∷ o ∷ p2 ∷ m4 ∷ m4 ∷ p2 ∷ p4 ∷ p2 ∷ m6 ∷ [])
    ∷ has 0xc4edef6731fa
    (p2 ∷ p2 ∷ p4 ∷ m4 ∷ p6 ∷ p4 ∷ m4 ∷ p4 ∷ m4 ∷ m4 ∷ o ∷ p2
    ∷ m2 ∷ p2 ∷ o ∷ p4 ∷ p4 ∷ p2 ∷ m2 ∷ o ∷ p2 ∷ p2 ∷ p2 ∷ p2 ∷ [])
    ∷ has 0x0e8f1141fdde
    (m2 ∷ m2 ∷ o ∷ p4 ∷ p4 ∷ o ∷ m2 ∷ p2 ∷ o ∷ p6 ∷ o ∷ p2
    ∷ m2 ∷ o ∷ m2 ∷ p4 ∷ p4 ∷ p4 ∷ p6 ∷ o ∷ p4 ∷ p2 ∷ p2 ∷ m2 ∷ [])
    ∷ has 0xa06cf4f4f522
    (m2 ∷ p4 ∷ o ∷ o ∷ p4 ∷ o ∷ p2 ∷ p2 ∷ o ∷ p2 ∷ m2 ∷ o
    ∷ p6 ∷ p4 ∷ p2 ∷ m2 ∷ m2 ∷ m2 ∷ p2 ∷ p2 ∷ p2 ∷ p2 ∷ m6 ∷ m2 ∷ [])
    ∷ has 0x003d3869c7d2
    (m2 ∷ p2 ∷ p2 ∷ o ∷ m2 ∷ p2 ∷ o ∷ m4 ∷ o ∷ o ∷ p6 ∷ o
    ∷ m2 ∷ o ∷ p4 ∷ p2 ∷ m4 ∷ m2 ∷ p2 ∷ o ∷ o ∷ p4 ∷ m2 ∷ p2 ∷ [])
    ∷ has 0xf28a8034370a
    (p2 ∷ m4 ∷ p6 ∷ o ∷ o ∷ o ∷ o ∷ p2 ∷ p2 ∷ o ∷ p4 ∷ p2
    ∷ p2 ∷ p6 ∷ m4 ∷ o ∷ p2 ∷ m2 ∷ o ∷ p4 ∷ p6 ∷ p4 ∷ m6 ∷ m2 ∷ [])
    ∷ has 0x77dd1ae4a5b2
    (p4 ∷ p2 ∷ p4 ∷ p2 ∷ m4 ∷ p4 ∷ m2 ∷ m2 ∷ o ∷ m2 ∷ o ∷ p4
    ∷ m2 ∷ o ∷ o ∷ m2 ∷ o ∷ p2 ∷ m2 ∷ p2 ∷ m4 ∷ p2 ∷ m4 ∷ m2 ∷ [])
    ∷ has 0x93dd82b9432a
    (p2 ∷ p6 ∷ p4 ∷ m2 ∷ p2 ∷ o ∷ o ∷ p6 ∷ p6 ∷ o ∷ o ∷ m2
    ∷ m2 ∷ m2 ∷ p2 ∷ m4 ∷ p6 ∷ p2 ∷ o ∷ p2 ∷ p2 ∷ p2 ∷ o ∷ p2 ∷ [])
    ∷ []

-- ---- each word decodes to its point
abbrev decoded : ℕ × List ℤ → List ℤ
decoded e = point_of e.0

abbrev written : ℕ × List ℤ → List ℤ
written e = e.1

pub pinned : (map decoded one_bit ≡ map written one_bit) × (map decoded all_fields ≡ map written all_fields)
unfolding tab word.field_at val_of point_at rows row_ranks middle_class middle_row columns order places codeword_at
    third_class ranks_at trio_point natural trio_point_of point_of
pinned = (refl, refl)
