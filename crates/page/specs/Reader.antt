-- What the reader answers for each text, line by line. Page.antt says what a page is; PageRule.antt proves that this reader accepts just
-- the pages. Assumes nothing.
use Rattle.std.specs.Prelude.{cond, List, [], ◌∷◌, ℕ, zero, suc, eqb, drop, get_or, Option, Some, None}
use Rattle.text.specs.Text.{bytes}
use Rattle.text.specs.Lines.{onRead, onDigit, begins, hex_at, decimal_line_at}
use Rattle.page.specs.Page.{format_line}
use Rattle.page.specs.Answer.{Reading, page, malformed}

-- ---- lines: each answers its value and how many bytes it takes, its LF included
unfoldable pub format_at : List ℕ → Option (ℕ × ℕ)
format_at s = cond (begins s format_line) (Some (0, 18)) None

unfoldable pub word_line_at : List ℕ → Option (ℕ × ℕ)
word_line_at s =
    cond (begins s (bytes "word=")) (onDigit (hex_at 12 (drop 5 s)) None (λ w. cond (eqb (get_or s 17 0) 10) (Some (w, 18)) None)) None

-- ---- the page, line by line: each reader stands at the place where the line before it ends
-- the word lines, and nothing behind the last
abbrev pub with_word : ℕ → Reading → Reading
with_word w (page num ws) = page num (w ∷ ws)
with_word w malformed = malformed

unfoldable pub words_at : ℕ → ℕ → List ℕ → Reading
words_at num zero [] = page num []
words_at num zero (b ∷ s) = malformed
words_at num (suc count) s = onRead (word_line_at s) malformed (λ w n. with_word w (words_at num count (drop n s)))

unfoldable pub count_at : ℕ → List ℕ → Reading
count_at num s = onRead (decimal_line_at (bytes "count=") 0 64 s) malformed (λ count n. words_at num count (drop n s))

unfoldable pub num_at : List ℕ → Reading
num_at s = onRead (decimal_line_at (bytes "num=") 1 65535 s) malformed (λ num n. count_at num (drop n s))

unfoldable pub reading_of : List ℕ → Reading
reading_of text = onRead (format_at text) malformed (λ v n. num_at (drop n text))
