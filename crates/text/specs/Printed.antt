-- A text in an array of n bytes, and one more piece at its end. Assumes nothing.
use Rattle.std.specs.Prelude.{cond, List, ◌++◌, ℕ, ◌+◌, leb, length}

-- the text with the piece behind it; where n bytes have no room for both, the text as it was
unfoldable pub appended : ℕ → List ℕ → List ℕ → List ℕ
appended n text piece = cond (leb (length text + length piece) n) (text ++ piece) text
