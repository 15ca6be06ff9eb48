-- A piece of text put into a buffer from a place on: whole, or not at all. Assumes nothing.
use Rattle.std.specs.Prelude.{cond, List, ℕ, ◌+◌, leb, length}
use Rattle.std.proofs.lemmas.List.Edits.{sets}

-- the buffer afterwards, where it held `old`
unfoldable pub placed : List ℕ → ℕ → List ℕ → List ℕ
placed old at piece = cond (leb (at + length piece) (length old)) (sets old at piece) old

-- the place behind the piece; where it does not fit, one past the length, where no piece fits
unfoldable pub place_behind : List ℕ → ℕ → List ℕ → ℕ
place_behind old at piece = cond (leb (at + length piece) (length old)) (at + length piece) (length old + 1)
