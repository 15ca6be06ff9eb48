-- The text of a trace: a line of num, and what unpage prints of blocks of counts. Assumes nothing.
use Rattle.std.specs.Prelude.{◌≡◌, List, ◌++◌, ℕ, ◌*◌, ◌^◌, ◌<◌, ◌≤◌, ℤ, length}
use Rattle.text.specs.Rows.{AllI32}
use Rattle.page.specs.Page.{num_line}
use Rattle.shown.specs.Shown.{block_texts}

-- the text of num and `count` blocks, whose samples stand in a row, 24 a block: nothing follows the last line
unfoldable pub trace_text : ℕ → ℕ → List ℤ → List ℕ
trace_text num count samples = num_line num ++ block_texts 0 count samples

-- the text is a trace, with this num and these blocks
pub record Trace (text : List ℕ) (num count : ℕ) (samples : List ℤ) : Type 0 where
  pub num_most : num < 2 ^ 32
  pub count_most : count ≤ 64
  pub size : length samples ≡ 24 * count
  pub samples_fit : AllI32 samples
  pub text_is : text ≡ trace_text num count samples
