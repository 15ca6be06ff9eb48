-- What the reader answers for each text, line by line. Trace.antt says what a trace is; TraceRule.antt proves that this reader accepts just
-- the traces. Assumes nothing.
use Rattle.std.specs.Prelude.{List, [], ◌∷◌, ◌++◌, ℕ, zero, suc, ◌+◌, ℤ, drop, Option, Some, None}
use Rattle.text.specs.Text.{bytes}
use Rattle.text.specs.Lines.{onRead, decimal_line_at}
use Rattle.text.specs.Rows.{list_line_at}
use Rattle.trace.specs.Answer.{Reading, trace, malformed}

-- the two lines of the block of index i: its samples, and how many bytes both take
unfoldable pub block_at : ℕ → List ℕ → Option (List ℤ × ℕ)
block_at i s =
    onRead (decimal_line_at (bytes "block=") i i s) None
    (λ v n. onRead (list_line_at (bytes "counts=") (drop n s)) None (λ zs m. Some (zs, n + m)))

-- n blocks with these samples in front of those that are read
abbrev pub behind : ℕ → List ℤ → Reading → Reading
behind n front (trace num count samples) = trace num (n + count) (front ++ samples)
behind n front malformed = malformed

-- the blocks from index i on, up to the text's end, of which there are at most n
unfoldable pub blocks_at : ℕ → ℕ → ℕ → List ℕ → Reading
blocks_at num i zero [] = trace num 0 []
blocks_at num i zero (b ∷ s) = malformed
blocks_at num i (suc n) [] = trace num 0 []
blocks_at num i (suc n) (b ∷ s) =
    onRead (block_at i (b ∷ s)) malformed (λ zs m. behind 1 zs (blocks_at num (suc i) n (drop m (b ∷ s))))

unfoldable pub trace_in : List ℕ → Reading
trace_in text = onRead (decimal_line_at (bytes "num=") 0 4294967295 text) malformed (λ num n. blocks_at num 0 64 (drop n text))
