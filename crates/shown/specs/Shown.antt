-- What the program prints. Assumes nothing.
use Rattle.std.specs.Prelude.{cond, List, [], ◌++◌, ℕ, zero, suc, eqb, ℤ, length, take, drop}
use Rattle.text.specs.Text.{bytes, line, decimal, listed, refused_text}
use Rattle.page.specs.Answer.{Reading, number_in, words_in, counts_in}

-- a block: its index, and its counts
unfoldable pub block_text : ℕ → List ℤ → List ℕ
block_text index counts = line (bytes "block=") (decimal index) ++ line (bytes "counts=") (listed counts)

-- n blocks, the first of index i, whose counts stand in a row, 24 a block
unfoldable pub block_texts : ℕ → ℕ → List ℤ → List ℕ
block_texts i zero counts = []
block_texts i (suc n) counts = block_text i (take 24 counts) ++ block_texts (suc i) n (drop 24 counts)

-- what is printed for a text: the page's blocks, which are none for an empty page; or the refusal alone
unfoldable pub printed : Reading → List ℕ
printed R = cond (eqb (number_in R) 0) (block_texts 0 (length (words_in R)) (counts_in R)) (refused_text (number_in R))
