-- What the exported calls answer, and what they leave in the memory that is lent to them. Definitions only.
use Rattle.std.specs.Prelude.{Bool, cond, ◌||◌, List, ◌++◌, ℕ, ◌+◌, ◌*◌, ◌^◌, eqb, ltb, ℤ, Float, length, take, drop}
use Rattle.refusal.specs.Refusal.{no_room}
use Rattle.tetra.specs.Tetra.{point_of}
use Rattle.tetra.specs.Encode.{encode_of}
use Rattle.tetra.specs.Encode.{Encoded}
use Rattle.page.specs.Answer.{Reading, number_in, words_in, read_of, cells_of}
use Rattle.page.specs.Reader.{reading_of}
use Rattle.score.specs.Scale.{Measured, scales}
use Rattle.score.specs.Score.{Scored, scored}
use Rattle.writer.specs.Writer.{Written, written_of}
use Rattle.encoder.specs.Encode.{Coding, encode_at_scale, encode_with, encode_samples}

-- ---- for all calls
-- a slice with fewer places than a block is too short
abbrev pub short {ℓ} : {A : Type ℓ} → List A → Bool
short xs = ltb (length xs) 24

-- which the call answers by `no_room`, before everything else
abbrev pub room_first : Bool → ℕ → ℕ
room_first b k = cond b no_room k

-- what is lent is written where the number is 0, and otherwise stays as it was
abbrev pub left {ℓ} : {A : Type ℓ} → ℕ → A → A → A
left k new old = cond (eqb k 0) new old

-- a block at a slice's start: what stands behind it stays
abbrev pub at_front : List ℤ → List ℤ → List ℤ
at_front block old = block ++ drop 24 old

-- ---- a word to its point, into a slice that held `old`
abbrev pub decode_number : List ℤ → ℕ
decode_number old = room_first (short old) 0

abbrev pub decode_point : ℕ → List ℤ → List ℤ
decode_point w old = left (decode_number old) (at_front (point_of w) old) old

-- ---- the point at a slice's start to its word, into a cell that held `old`
abbrev pub word_for : List ℤ → Encoded
word_for y = encode_of (take 24 y)

abbrev pub point_number : List ℤ → ℕ
point_number y = room_first (short y) (word_for y).number

abbrev pub point_word : List ℤ → ℕ → ℕ
point_word y old = left (point_number y) (word_for y).word old

-- the section, from 1 to 3, that is outside its bound where the number is 11, and else 0, as for a slice that is too short
abbrev pub outside_section : List ℤ → ℕ
outside_section y = cond (short y) 0 (word_for y).section

-- ---- the 24 samples at a slice's start to their code: at a scale, at the scale that they give, and there at the setting 8
abbrev pub at_scale : List Float → Float → ℕ → Coding
at_scale x s n = encode_at_scale (take 24 x) s n

abbrev pub at_setting : List Float → ℕ → Coding
at_setting x n = encode_with (take 24 x) n

abbrev pub at_own_scale : List Float → Coding
at_own_scale x = encode_samples (take 24 x)

-- the number, where the point is to go into a slice that held `old`
abbrev pub code_number : List Float → List ℤ → Coding → ℕ
code_number x old c = room_first (short x || short old) c.number

-- what that slice then holds, where the number is k
abbrev pub left_point : ℕ → Coding → List ℤ → List ℤ
left_point k c old = left k (at_front c.point old) old

-- ---- the 24 samples at a slice's start to their largest magnitude and lower scale
abbrev pub scales_for : List Float → Measured
scales_for x = scales (take 24 x)

abbrev pub scales_number : List Float → ℕ
scales_number x = room_first (short x) (scales_for x).number

-- ---- the 24 samples and the point at two slices' starts to the score
abbrev pub score_for : List Float → List ℤ → Scored
score_for x y = scored (take 24 x) (take 24 y)

abbrev pub score_number : List Float → List ℤ → ℕ
score_number x y = room_first (short x || short y) (score_for x y).number

-- ---- a page's text to its counts, into a slice that held `old`: 9 stands before 8
abbrev pub page_number : List ℕ → List ℤ → ℕ
page_number text old = (read_of (reading_of text) (length old)).number

-- the cell for the count of blocks, which held `was`
abbrev pub page_blocks : List ℕ → List ℤ → ℕ → ℕ
page_blocks text old was = left (page_number text old) (read_of (reading_of text) (length old)).count was

abbrev pub page_cells : List ℕ → List ℤ → List ℤ
page_cells text old = cells_of (reading_of text) old

-- ---- what a text is to its num and its words, into a slice that held `old`: 9 stands before 8
abbrev pub words_number : Reading → List ℕ → ℕ
words_number R old = cond (eqb (number_in R) 0) (cond (ltb (length old) (length (words_in R))) no_room 0) (number_in R)

-- the words at the slice's start, and what stands behind them as it was
abbrev pub words_over : Reading → List ℕ → List ℕ
words_over R old = words_in R ++ drop (length (words_in R)) old

-- ---- whole samples to the text of their page, into a slice that held `old`
abbrev pub written_page : ℕ → ℕ → List ℤ → List ℕ → Written
written_page num count samples old = written_of num count samples (length old)

-- the number in the low 32 bits, and the block above them
abbrev pub with_block : Written → ℕ
with_block w = w.number + 2 ^ 32 * w.block
