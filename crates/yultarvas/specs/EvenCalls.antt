-- What the exported calls of the even profile answer, and what they leave in the memory that is lent to them. `short`, `room_first`, `left` and
-- `at_front` are those of every call, `code_number` and `left_point` those of every code (Calls). Definitions only.
use Rattle.std.specs.Prelude.{List, ℕ, ℤ, Float, length, take}
use Rattle.tetra.specs.Tetra.{point_of}
use Rattle.tetra.specs.Encode.{Encoded}
use Rattle.search.specs.Parity.{even_parities}
use Rattle.encoder.specs.Encode.{Coding, encode_at_over, encode_over, encode_samples_over}
use Rattle.page.specs.Reader.{reading_of}
use Rattle.even.specs.Even.{word_number, even_encoded, even_read, even_cells}
use Rattle.yultarvas.specs.Calls.{short, room_first, left, at_front}

-- ---- a word to its point, into a slice that held `old`: 8, then 13
abbrev pub even_decode_number : ℕ → List ℤ → ℕ
even_decode_number w old = room_first (short old) (word_number w)

abbrev pub even_decode_point : ℕ → List ℤ → List ℤ
even_decode_point w old = left (even_decode_number w old) (at_front (point_of w) old) old

-- ---- the point at a slice's start to its word, into a cell that held `old`
abbrev pub even_word_for : List ℤ → Encoded
even_word_for y = even_encoded (take 24 y)

abbrev pub even_point_number : List ℤ → ℕ
even_point_number y = room_first (short y) (even_word_for y).number

abbrev pub even_point_word : List ℤ → ℕ → ℕ
even_point_word y old = left (even_point_number y) (even_word_for y).word old

-- ---- the 24 samples at a slice's start to their code over the even points: at a scale, at the scale that they give, and there at the setting 8
abbrev pub even_at_scale : List Float → Float → ℕ → Coding
even_at_scale x s n = encode_at_over even_parities (take 24 x) s n

abbrev pub even_at_setting : List Float → ℕ → Coding
even_at_setting x n = encode_over even_parities (take 24 x) n

abbrev pub even_at_own_scale : List Float → Coding
even_at_own_scale x = encode_samples_over even_parities (take 24 x)

-- ---- a page's text to its counts, into a slice that held `old`: 9, then 13, then 8
abbrev pub even_page_number : List ℕ → List ℤ → ℕ
even_page_number text old = (even_read (reading_of text) (length old)).number

-- the cell for the count of blocks, which held `was`
abbrev pub even_page_blocks : List ℕ → List ℤ → ℕ → ℕ
even_page_blocks text old was = left (even_page_number text old) (even_read (reading_of text) (length old)).count was

abbrev pub even_page_cells : List ℕ → List ℤ → List ℤ
even_page_cells text old = even_cells (reading_of text) old
