-- The point of a word. Assumes nothing.
use Rattle.std.specs.Prelude.{List, ◌++◌, map, ℕ, ◌+◌, ◌*◌, ◌%◌, ℤ, pos, get_or}
use Rattle.word.specs.Word.{fields_of}
use Rattle.word.specs.declared.Fields.{Fields}
use Rattle.rank.specs.Section.{point_at}
use Rattle.rows.specs.Table.{row_ranks, middle_class, middle_row}
use Rattle.trellis.specs.Code.{codeword_of, columns, label, first, second, third}
use Rattle.trellis.specs.Trio.{places}
use Rattle.tetra.specs.declared.Bytes.{Bytes}

-- ---- the codeword that a word's fields name
unfoldable pub codeword_at : Fields → ℕ
codeword_at f = codeword_of columns (label f.s8 f.b1 f.b2 f.b3)

-- ---- the ranks that they name: row i1 of class r, the middle's row i2, and row i3 of the third class
-- p xor r xor the middle class
unfoldable pub third_class : Fields → ℕ
third_class f = (f.p + f.r + middle_class f.i2) % 2

unfoldable pub ranks_at : Fields → List ℕ
ranks_at f = row_ranks (2048 * f.r + f.i1) ++ (row_ranks (middle_row f.i2) ++ row_ranks (2048 * third_class f + f.i3))

-- ---- the point: each coordinate has the parity p, its bit of the codeword and its rank
unfoldable pub trio_point : Fields → List ℤ
trio_point f = point_at f.p (codeword_at f) (ranks_at f)

-- from trio order to natural order: coordinate i is the one that stands at its place
unfoldable pub natural : List ℤ → List ℤ
natural t = map (λ (j : ℕ). get_or t j (pos 0)) places

-- the point of a word in trio order, as `decode_trio_order` answers it, and in natural order, as `decode` does. Neither reads the gain.
unfoldable pub trio_point_of : ℕ → List ℤ
trio_point_of w = trio_point (fields_of w)

unfoldable pub point_of : ℕ → List ℤ
point_of w = natural (trio_point_of w)

-- ---- the three bytes of a word's codeword, as `patterns` answers them
unfoldable pub patterns_of : ℕ → Bytes
patterns_of w =
    record { c1 = first (codeword_at (fields_of w)); c2 = second (codeword_at (fields_of w)); c3 = third (codeword_at (fields_of w)) }
