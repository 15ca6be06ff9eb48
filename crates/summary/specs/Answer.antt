-- What the calls answer, once it is known what the text is, and what they leave in the rows that are lent to them. Definitions only.
use Rattle.std.specs.Prelude.{Bool, true, false, cond, ◌&&◌, List, [], ◌∷◌, ◌++◌, ℕ, ◌+◌, ◌%◌, ◌^◌, eqb, ltb, leb, ℤ, length, drop, Result, Ok, Err}
use Rattle.laws.specs.Words.{eq_z}
use Rattle.refusal.specs.declared.Refusal.{Refusal}
use Rattle.refusal.specs.Refusal.{no_room, no_page, disagrees, number_of}
use Rattle.page.specs.Answer.{Reading, number_in, words_in}
use Rattle.summary.specs.Summary.{summary_of, cells_for}

-- an answer in document 02's terms: number 0 and how many blocks the rows are of, or the number of a refusal and 0
pub record Summed : Type 0 where
  pub number : ℕ
  pub count : ℕ

abbrev pub summed_by : Result ℕ Refusal → Summed
summed_by (Ok count) = record { number = 0; count = count }
summed_by (Err r) = record { number = number_of r; count = 0 }

-- the number, and beside 0 the count of blocks
abbrev pub summed : ℕ → ℕ → Summed
summed number count = record { number = number; count = cond (eqb number 0) count 0 }

-- the number of a text that is no page stands before all others
abbrev pub page_first : Reading → ℕ → ℕ
page_first R k = cond (eqb (number_in R) 0) k (number_in R)

-- rows that held `old`: where the number is 0 the summary of the words from their start on, and what stands behind it as it was; on a
-- refusal all as it was
abbrev pub rows_left : ℕ → List ℕ → List ℤ → List ℤ
rows_left number ws old = cond (eqb number 0) (summary_of ws ++ drop (cells_for (length ws)) old) old

-- ---- `summarise`: 9 for no page, then 8 for fewer cells than the summary takes; otherwise 0 and the count of blocks
unfoldable pub summarise_number : Reading → ℕ → ℕ
summarise_number R cells = page_first R (cond (ltb cells (cells_for (length (words_in R)))) no_room 0)

unfoldable pub summarised : Reading → ℕ → Summed
summarised R cells = summed (summarise_number R cells) (length (words_in R))

unfoldable pub summarised_rows : Reading → List ℤ → List ℤ
summarised_rows R old = rows_left (summarise_number R (length old)) (words_in R) old

-- ---- `check`: 9 for no page, then 8 for fewer cells than the summary takes, then 14 where they are not the summary; otherwise 0
-- the cells begin with these; what stands behind is not looked at
unfoldable pub begin : List ℤ → List ℤ → Bool
begin rows [] = true
begin [] (x ∷ xs) = false
begin (r ∷ rows) (x ∷ xs) = eq_z r x && begin rows xs

unfoldable pub agree : List ℕ → List ℤ → Bool
agree ws rows = begin rows (summary_of ws)

unfoldable pub checked : Reading → List ℤ → ℕ
checked R rows =
    page_first R
    (cond (ltb (length rows) (cells_for (length (words_in R)))) no_room
    (cond (agree (words_in R) rows) 0 disagrees))

-- ---- `add`: 9 for no page or a full one, then 8 for fewer cells than the longer summary takes, then 14 where the rows are not the summary of
-- the page; otherwise 0 and the count of blocks of the longer page
unfoldable pub add_number : Reading → List ℤ → ℕ
add_number R rows =
    page_first R
    (cond (leb 64 (length (words_in R))) no_page
    (cond (ltb (length rows) (cells_for (length (words_in R) + 1))) no_room
    (cond (agree (words_in R) rows) 0 disagrees)))

unfoldable pub added : Reading → List ℤ → Summed
added R rows = summed (add_number R rows) (length (words_in R) + 1)

-- the words of the longer page: of the one that is added the low 48 bits
abbrev pub longer : List ℕ → ℕ → List ℕ
longer ws w = ws ++ (w % 2 ^ 48 ∷ [])

unfoldable pub added_rows : Reading → ℕ → List ℤ → List ℤ
added_rows R w rows = rows_left (add_number R rows) (longer (words_in R) w) rows
