-- The even profile for heater channels: request 2026-06 of document 02. Of samples it is the full coder's definition over `even_parities`
-- (search/specs/Parity): `encode_at_over`, `encode_over` and `encode_samples_over` of it (encoder/specs/Encode). Definitions only.
use Rattle.std.specs.Prelude.{Bool, false, cond, not, ◌||◌, List, [], ◌∷◌, ℕ, eqb, ℤ, pos, Result, Ok, Err}
use Rattle.laws.specs.Words.{tab}
use Rattle.refusal.specs.declared.Refusal.{Refusal}
use Rattle.refusal.specs.Refusal.{all_odd, number_of}
use Rattle.word.specs.Word.{fields_of}
use Rattle.rank.specs.Section.{uniform}
use Rattle.tetra.specs.Tetra.{point_of}
use Rattle.tetra.specs.Encode.{refused_with, encode_of}
use Rattle.tetra.specs.Encode.{Encoded}
use Rattle.page.specs.Answer.{PageRead, Reading, words_in, read_of, cells_of}

-- ---- a word: its number is 13 where its p is 1
unfoldable pub word_number : ℕ → ℕ
word_number w = cond (eqb (fields_of w).p 0) 0 all_odd

-- what `decode` answers: number 0 and the point, or the number of a refusal and 24 zeros
pub record Decoded : Type 0 where
  pub number : ℕ
  pub point : List ℤ

abbrev pub decoded_by : Result (List ℤ) Refusal → Decoded
decoded_by (Ok y) = record { number = 0; point = y }
decoded_by (Err r) = record { number = number_of r; point = tab (λ (i : ℕ). pos 0) 24 }

-- its point, as `decode` of the full coder answers it; a refusal has 24 zeros
unfoldable pub even_decoded : ℕ → Decoded
even_decoded w =
    cond (eqb (word_number w) 0) (record { number = 0; point = point_of w })
    (record { number = word_number w; point = tab (λ (i : ℕ). pos 0) 24 })

-- ---- a point: 13 where all of its coordinates are odd. Every other one is answered as by the full coder, so mixed parities by 5
unfoldable pub even_encoded : List ℤ → Encoded
even_encoded y = cond (uniform 1 y) (refused_with all_odd 0) (encode_of y)

-- ---- a page: 13 where one of its words has p = 1; a text that is no page has no words. Else it is read as the full coder reads it
unfoldable pub any_odd : List ℕ → Bool
any_odd [] = false
any_odd (w ∷ ws) = not (eqb (word_number w) 0) || any_odd ws

-- the number and the count, where the buffer has `cells` cells
unfoldable pub even_read : Reading → ℕ → PageRead
even_read R cells = cond (any_odd (words_in R)) (record { number = all_odd; count = 0 }) (read_of R cells)

-- the buffer afterwards, where it held `old`
unfoldable pub even_cells : Reading → List ℤ → List ℤ
even_cells R old = cond (any_odd (words_in R)) old (cells_of R old)
