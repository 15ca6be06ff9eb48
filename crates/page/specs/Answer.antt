-- What the calls answer, once it is known whether the text is a page. Assumes nothing.
use Rattle.std.specs.Prelude.{cond, List, [], ◌++◌, ℕ, ◌*◌, ◌-◌, ltb, eqb, ℤ, length, drop, replicate, Result, Ok, Err}
use Rattle.refusal.specs.declared.Refusal.{Refusal}
use Rattle.refusal.specs.Refusal.{no_room, no_page, number_of}
use Rattle.page.specs.declared.content.Page.{Page}
use Rattle.page.specs.Counts.{page_counts}

-- what a text is: the page of num and the words, or no page
pub data Reading : Type 0 where
  page : ℕ → List ℕ → Reading
  malformed : Reading

-- ---- what a reading says
-- its number: 0 for a page, and else that of no page
unfoldable pub number_in : Reading → ℕ
number_in (page num words) = 0
number_in malformed = no_page

-- the page's num, its words, one for each block, and its counts; there are none where there is no page
unfoldable pub num_in : Reading → ℕ
num_in (page num words) = num
num_in malformed = 0

unfoldable pub words_in : Reading → List ℕ
words_in (page num words) = words
words_in malformed = []

unfoldable pub counts_in : Reading → List ℤ
counts_in (page num words) = page_counts num words
counts_in malformed = []

-- ---- what the calls answer in document 01's terms: number 0 and what is answered, or the number of a refusal and zeros
pub record Parsed : Type 0 where
  pub number : ℕ
  pub num : ℕ
  pub count : ℕ
  pub words : List ℕ

abbrev pub parsed_by : Result Page Refusal → Parsed
parsed_by (Ok p) = record { number = 0; num = p.num; count = p.count; words = p.words }
parsed_by (Err r) = record { number = number_of r; num = 0; count = 0; words = replicate 64 0 }

pub record PageRead : Type 0 where
  pub number : ℕ
  pub count : ℕ

abbrev pub read_by : Result ℕ Refusal → PageRead
read_by (Ok count) = record { number = 0; count = count }
read_by (Err r) = record { number = number_of r; count = 0 }

-- ---- `parse`: number 0, num, the count and the words, with zeros behind them up to 64; or 9 and zeros
abbrev pub refused_by : ℕ → Parsed
refused_by number = record { number = number; num = 0; count = 0; words = replicate 64 0 }

unfoldable pub parsed_of : Reading → Parsed
parsed_of (page num words) =
    record { number = 0; num = num; count = length words; words = words ++ replicate (64 - length words) 0 }
parsed_of malformed = refused_by no_page

-- ---- `read`: 9 for no page, then 8 for fewer cells than 24 per block; otherwise 0 and the count of blocks
-- the number and the count, where the buffer has `cells` cells
unfoldable pub read_of : Reading → ℕ → PageRead
read_of R cells =
    cond (eqb (number_in R) 0)
    (cond (ltb cells (24 * length (words_in R))) (record { number = no_room; count = 0 }) (record { number = 0; count = length (words_in R) }))
    (record { number = number_in R; count = 0 })

-- the buffer afterwards, where it held `old`: the counts from its start on, and the rest as it was; on a refusal all as it was
unfoldable pub cells_of : Reading → List ℤ → List ℤ
cells_of R old =
    cond (eqb (number_in R) 0)
    (cond (ltb (length old) (24 * length (words_in R))) old (counts_in R ++ drop (24 * length (words_in R)) old)) old
