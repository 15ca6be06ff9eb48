-- Demand 2, for samples: at any 24 doubles of at most a million in size, and any setting of the shrinks, the search at one scale finds a path,
-- and its point has a word; so that word decodes to the point, and the point encodes to the word. For the full coder the theorems are `found`
-- and, in proofs/Members, `has_word`, `encodes` and `parity_is`; for the even profile `found-even` and, there, `has_word-even`, `encodes-even`
-- and `is_even`. Assumes nothing.
use Rattle.std.specs.Prelude.{◌≡◌, true, List, ℕ, Float}
use Rattle.std.proofs.Common.{zero-lt-suc}
use Rattle.search.specs.Parity.{both_parities, even_parities}
use Rattle.search.specs.Block.{winner_for}
use Rattle.nearest.specs.Laws.Searched.{both-lt, even-lt}
use Rattle.members.specs.Accepted.{Accepted}
use Rattle.members.specs.Laws.Search.{finds}

-- ---- the full coder
pub found : (t : List Float) → Accepted t → (n : ℕ) → (winner_for both_parities n t).found ≡ true
found t A n = finds t A n both_parities (zero-lt-suc 1) both-lt

-- ---- the even profile
pub found-even : (t : List Float) → Accepted t → (n : ℕ) → (winner_for even_parities n t).found ≡ true
found-even t A n = finds t A n even_parities (zero-lt-suc 0) even-lt
