-- What the page writer answers: request 2026-01 of document 02. Blocks are numbered from 0; block i is the 24 samples from place 24 * i on, so
-- samples behind the last block are not looked at. Definitions only.
use Rattle.std.specs.Prelude.{◌≡◌, Bool, false, cond, not, ◌||◌, List, [], ◌∷◌, ◌++◌, ℕ, zero, suc, ◌+◌, ◌*◌, ◌<◌, ltb, eqb, ℤ, pos, nat_abs, Float, length, drop, get_or, Result, Ok, Err}
use Rattle.std.specs.Float.{fin, binary64}
use Rattle.std.specs.Float.Ieee.{div, of_int}
use Rattle.laws.specs.Words.{tab}
use Rattle.refusal.specs.Refusal.{too_large, no_scale, too_far, no_room, no_page, number_of}
use Rattle.tetra.specs.Block.{block_at}
use Rattle.score.specs.Samples.{scale_number}
use Rattle.score.specs.Score.{doubles_of}
use Rattle.encoder.specs.Encode.{number_at, encode_at_scale}
use Rattle.page.specs.Page.{page_text}
use Rattle.page.specs.Form.{is_num}
use Rattle.writer.specs.declared.Unwritten.{Unwritten}

-- ---- the scale of a page: num / 256. That it is exact is `scale_exact` of WriterRule.antt
unfoldable pub scale_of : ℕ → Float
scale_of num = div binary64 (of_int binary64 (pos num)) (fin false 1 (pos 8))

-- ---- the tests of a block
-- a sample lies beyond 32767 in magnitude
unfoldable pub is_wide : List ℤ → Bool
is_wide [] = false
is_wide (x ∷ xs) = ltb 32767 (nat_abs x) || is_wide xs

-- it is refused with 4 at the scale s
unfoldable pub is_far : Float → List ℤ → Bool
is_far s block = eqb (scale_number (doubles_of block) s) too_far

-- ---- the lowest of n blocks from block i on that passes a test; i + n where none does
unfoldable pub first_of : (List ℤ → Bool) → List ℤ → ℕ → ℕ → ℕ
first_of test xs i zero = i
first_of test xs i (suc n) = cond (test (block_at xs (24 * i))) i (first_of test xs (suc i) n)

-- of `count` blocks; count where none does
abbrev pub first_wide : List ℤ → ℕ → ℕ
first_wide xs count = first_of is_wide xs 0 count

abbrev pub first_far : Float → List ℤ → ℕ → ℕ
first_far s xs count = first_of (is_far s) xs 0 count

-- ---- the words of the blocks, each encoded at the scale s; no setting is named, so it is 8
unfoldable pub word_for : Float → List ℤ → ℕ → ℕ
word_for s xs i = (encode_at_scale (doubles_of (block_at xs (24 * i))) s 8).word

abbrev pub words_for : Float → List ℤ → ℕ → List ℕ
words_for s xs count = tab (word_for s xs) count

-- ---- what `write` answers
-- the text of the page
unfoldable pub text_of : ℕ → ℕ → List ℤ → List ℕ
text_of num count xs = page_text num (words_for (scale_of num) xs count)

-- an answer in document 02's terms: number 0 and the text's length; or the number of a refusal, and for 2 and 4 the lowest block that has it
pub record Written : Type 0 where
  pub number : ℕ
  pub block : ℕ
  pub length : ℕ

abbrev pub written_by : Result ℕ Unwritten → Written
written_by (Ok n) = record { number = 0; block = 0; length = n }
written_by (Err u) = record { number = number_of u.refusal; block = u.block; length = 0 }

abbrev pub refused_at : ℕ → ℕ → Written
refused_at number block = record { number = number; block = block; length = 0 }

-- the refusals in the order of the request, each over all blocks before the next. 2 and 4 name the lowest block that has them, the others
-- block 0. `room` is how many bytes the lent text has
unfoldable pub written_of : ℕ → ℕ → List ℤ → ℕ → Written
written_of num count xs room =
    cond (not (is_num num)) (refused_at no_scale 0)
    (cond (ltb 64 count) (refused_at no_page 0)
    (cond (ltb (length xs) (24 * count)) (refused_at no_room 0)
    (cond (ltb (first_wide xs count) count) (refused_at too_large (first_wide xs count))
    (cond (ltb (first_far (scale_of num) xs count) count) (refused_at too_far (first_far (scale_of num) xs count))
    (cond (ltb room (length (text_of num count xs))) (refused_at no_room 0)
    (record { number = 0; block = 0; length = length (text_of num count xs) }))))))

-- the lent text afterwards, where it held `old`: the page from its start on, and the rest as it was; on a refusal all as it was
unfoldable pub text_after : ℕ → ℕ → List ℤ → List ℕ → List ℕ
text_after num count xs old =
    cond (eqb (written_of num count xs (length old)).number 0) (text_of num count xs ++ drop (length (text_of num count xs)) old) old

-- ---- the words in which WriterRule.antt says when each answer is given
-- block i has a sample beyond 32767 in magnitude
abbrev pub Wide : List ℤ → ℕ → Type 0
Wide xs i = (j : ℕ) × (j < 24) × (32767 < nat_abs (get_or xs (24 * i + j) (pos 0)))

-- `encode_at_scale` refuses block i with 4 at the scale of num
abbrev pub Far : ℕ → List ℤ → ℕ → Type 0
Far num xs i = number_at (doubles_of (block_at xs (24 * i))) (scale_of num) 8 ≡ 4

-- none of the first n blocks is so
abbrev pub NoneBelow : ℕ → (ℕ → Type 0) → Type 0
NoneBelow n P = (i : ℕ) → i < n → P i → ⊥

-- the call answers r and leaves t in a text that held `old`
abbrev pub Gives : ℕ → ℕ → List ℤ → List ℕ → Written → List ℕ → Type 0
Gives num count xs old r t = (written_of num count xs (length old) ≡ r) × (text_after num count xs old ≡ t)
