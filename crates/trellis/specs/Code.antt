-- The Golay code in trio order, from its twelve columns. Bit j of a codeword belongs to the coordinate at place j of trio order; the three
-- bytes of a codeword, lowest first, are its three sections. Assumes nothing.
use Rattle.std.specs.Prelude.{cond, List, [], ◌∷◌, ℕ, ◌+◌, ◌*◌, ◌/◌, ◌%◌, eqb}
use Rattle.std.specs.Int.Bits.{bit_xor}
use Rattle.laws.specs.Words.{tab}

-- ---- codewords
-- column i belongs to bit i of a label
unfoldable pub columns : List ℕ
columns =
    0x2d002e ∷ 0x3a005a ∷ 0x740033 ∷ 0x03061e ∷ 0x050963 ∷ 0x090578 ∷ 0x0000ff ∷ 0x2d1d00 ∷ 0x3a2b00 ∷ 0x744700 ∷ 0x638e00
    ∷ 0xff0000 ∷ []

-- the exclusive-or of the columns at the set bits of x; a bit past the last column names none, and is left out
abbrev pub codeword_of : List ℕ → ℕ → ℕ
codeword_of [] x = 0
codeword_of (c ∷ cs) x = bit_xor (c * (x % 2)) (codeword_of cs (x / 2))

-- all codewords, in the order of their labels
unfoldable pub codewords : List ℕ
codewords = tab (codeword_of columns) 4096

-- ---- labels: s8, b1, b2, b3 packed at 0, 6, 7, 11
abbrev pub label : ℕ → ℕ → ℕ → ℕ → ℕ
label s8 b1 b2 b3 = s8 + 64 * b1 + 128 * b2 + 2048 * b3

-- the label of four numbers, each cut to its width
abbrev pub input_of : ℕ → ℕ → ℕ → ℕ → ℕ
input_of s8 b1 b2 b3 = label (s8 % 64) (b1 % 2) (b2 % 16) (b3 % 2)

-- ---- sections: the bytes c1, c2, c3 of a word c1 + 256 c2 + 65536 c3
abbrev pub first : ℕ → ℕ
first w = w % 256

abbrev pub second : ℕ → ℕ
second w = w / 256 % 256

abbrev pub third : ℕ → ℕ
third w = w / 65536

-- ---- how often k stands in a list
abbrev pub tally : ℕ → List ℕ → ℕ
tally k [] = 0
tally k (n ∷ ns) = cond (eqb n k) 1 0 + tally k ns
