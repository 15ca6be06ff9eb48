-- The trace page, as document 01 has it: a text for each num and each list of words. Assumes nothing.
use Rattle.std.specs.Prelude.{◌≡◌, List, [], ◌∷◌, ◌++◌, ℕ, ◌^◌, ◌<◌, ◌≤◌, length, get_or}
use Rattle.text.specs.Text.{bytes, line, decimal, hex}

unfoldable pub format_line : List ℕ
format_line = line (bytes "format=") (bytes "tetra-page")

unfoldable pub num_line : ℕ → List ℕ
num_line num = line (bytes "num=") (decimal num)

unfoldable pub count_line : ℕ → List ℕ
count_line count = line (bytes "count=") (decimal count)

unfoldable pub word_line : ℕ → List ℕ
word_line word = line (bytes "word=") (hex 12 word)

unfoldable pub word_lines : List ℕ → List ℕ
word_lines [] = []
word_lines (w ∷ ws) = word_line w ++ word_lines ws

-- the text of the page of num and the words: nothing follows the last line
unfoldable pub page_text : ℕ → List ℕ → List ℕ
page_text num words = format_line ++ (num_line num ++ (count_line (length words) ++ word_lines words))

-- each word fits 48 bits
abbrev pub Fit : List ℕ → Type 0
Fit words = (k : ℕ) → k < length words → get_or words k 0 < 2 ^ 48

-- the text is a page, with this num and these words
pub record Page (text : List ℕ) (num : ℕ) (words : List ℕ) : Type 0 where
  pub num_least : 1 ≤ num
  pub num_most : num ≤ 65535
  pub count_most : length words ≤ 64
  pub words_fit : Fit words
  pub text_is : text ≡ page_text num words
