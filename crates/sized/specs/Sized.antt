-- What the program prints of a page's summary. Assumes nothing.
use Rattle.std.specs.Prelude.{cond, List, [], ◌++◌, ℕ, zero, suc, eqb, ℤ, pos, length, get_or, drop}
use Rattle.text.specs.Text.{bytes, line, decimal, signed, refused_text}
use Rattle.page.specs.Answer.{Reading, number_in, words_in}
use Rattle.summary.specs.Summary.{summary_of}

-- the row that some cells begin with, a line for each cell
unfoldable pub row_text : List ℤ → List ℕ
row_text cells =
    line (bytes "sum=") (signed (get_or cells 0 (pos 0)))
    ++ (line (bytes "largest=") (signed (get_or cells 1 (pos 0)))
    ++ (line (bytes "smallest=") (signed (get_or cells 2 (pos 0)))
    ++ line (bytes "odd=") (signed (get_or cells 3 (pos 0)))))

-- a block: its index, and its row
unfoldable pub block_text : ℕ → List ℤ → List ℕ
block_text index cells = line (bytes "block=") (decimal index) ++ row_text cells

-- n blocks, the first of index i, whose rows stand one behind another, four cells a block
unfoldable pub block_texts : ℕ → ℕ → List ℤ → List ℕ
block_texts i zero cells = []
block_texts i (suc n) cells = block_text i cells ++ block_texts (suc i) n (drop 4 cells)

-- the summary of n blocks: how many they are, the page's row, and the blocks
unfoldable pub summary_text : ℕ → List ℤ → List ℕ
summary_text n cells = line (bytes "blocks=") (decimal n) ++ (row_text cells ++ block_texts 0 n (drop 4 cells))

-- what is printed for a text: the summary of the page, or the refusal alone
unfoldable pub printed : Reading → List ℕ
printed R = cond (eqb (number_in R) 0) (summary_text (length (words_in R)) (summary_of (words_in R))) (refused_text (number_in R))
