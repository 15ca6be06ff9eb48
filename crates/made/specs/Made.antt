-- What the program mkpage prints. Assumes nothing.
use Rattle.std.specs.Prelude.{Bool, cond, ◌||◌, List, [], ◌++◌, ℕ, eqb, ℤ}
use Rattle.refusal.specs.Refusal.{too_large, too_far, no_page}
use Rattle.text.specs.Text.{bytes, line, decimal, refused_text}
use Rattle.trace.specs.Answer.{Reading, trace, malformed}
use Rattle.writer.specs.Writer.{text_of, written_of}

-- 2 and 4 are about a block
unfoldable pub names_block : ℕ → Bool
names_block number = eqb number too_large || eqb number too_far

-- the lines of a refusal: its number, and for 2 and 4 the block that has it
unfoldable pub refused_lines : ℕ → ℕ → List ℕ
refused_lines number block =
    refused_text number ++ cond (names_block number) (line (bytes "block=") (decimal block)) []

-- what is printed for num and `count` blocks of samples: the text of the page, as the writer writes it where it has room for 1,189 bytes; or
-- the writer's refusal
unfoldable pub page_or_refusal : ℕ → ℕ → List ℤ → List ℕ
page_or_refusal num count samples =
    cond (eqb (written_of num count samples 1189).number 0) (text_of num count samples)
    (refused_lines (written_of num count samples 1189).number (written_of num count samples 1189).block)

-- and for a text: that of the trace that it is, or 9 where it is none
unfoldable pub made : Reading → List ℕ
made (trace num count samples) = page_or_refusal num count samples
made malformed = refused_lines no_page 0
