-- What `form` answers: the text of a page in a lent buffer, or a refusal. The refusals are those of document 02, 2026-01, that concern num, the
-- count and the room for the text, in its order. Assumes nothing.
use Rattle.std.specs.Prelude.{Bool, cond, ◌&&◌, List, ◌++◌, ℕ, ltb, leb, eqb, length, take, drop, Result, Ok, Err}
use Rattle.refusal.specs.declared.Refusal.{Refusal}
use Rattle.refusal.specs.Refusal.{no_scale, no_room, no_page, number_of}
use Rattle.page.specs.Page.{page_text}

-- a page's num is 1 to 65535
unfoldable pub is_num : ℕ → Bool
is_num num = leb 1 num && leb num 65535

-- the text that is formed: the page of num and of the first `count` words. Of each word its low 48 bits are written, so no word is refused
unfoldable pub form_text : ℕ → ℕ → List ℕ → List ℕ
form_text num count words = page_text num (take count words)

-- ---- `form`: 3 for a num that no page has, then 9 for more than 64 words, then 8 for a buffer that is shorter than the text; otherwise 0
-- the number, where the buffer has `room` bytes
unfoldable pub form_number : ℕ → ℕ → List ℕ → ℕ → ℕ
form_number num count words room =
    cond (is_num num) (cond (ltb 64 count) no_page (cond (ltb room (length (form_text num count words))) no_room 0)) no_scale

-- an answer in document 01's terms: number 0 and the text's length, or the number of a refusal and 0
pub record Formed : Type 0 where
  pub number : ℕ
  pub length : ℕ

abbrev pub formed_by : Result ℕ Refusal → Formed
formed_by (Ok n) = record { number = 0; length = n }
formed_by (Err r) = record { number = number_of r; length = 0 }

-- the number and the text's length, which is 0 on a refusal
unfoldable pub formed_of : ℕ → ℕ → List ℕ → ℕ → Formed
formed_of num count words room =
    record {
      number = form_number num count words room;
      length = cond (eqb (form_number num count words room) 0) (length (form_text num count words)) 0;
    }

-- the buffer afterwards, where it held `old`: the text from its start on, and the rest as it was; on a refusal all as it was
unfoldable pub form_in : ℕ → ℕ → List ℕ → List ℕ → List ℕ
form_in num count words old =
    cond (eqb (form_number num count words (length old)) 0)
    (form_text num count words ++ drop (length (form_text num count words)) old) old
