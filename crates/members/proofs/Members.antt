-- Demand 2, for samples: what specs/Members says, of the point that the search at one scale finds. It has a word; so that word decodes to the
-- point, and the point encodes to the word; and its coordinates have the winner's parity. Assumes nothing.
use Rattle.std.specs.Prelude.{List, ℕ, Float}
use Rattle.std.proofs.Common.{subst, zero-lt-suc}
use Rattle.tetra.specs.Lattice.{HasWord}
use Rattle.tetra.specs.Encode.{encode_of}
use Rattle.tetra.specs.Why.{OfParity}
use Rattle.tetra.specs.Demand2 as words
use Rattle.search.specs.Parity.{both_parities, even_parities}
use Rattle.search.specs.Tables.{tables}
use Rattle.search.specs.Block.{rule_of, targets_of, point_from, winner_for}
use Rattle.search.proofs.Parity.{found_among}
use Rattle.nearest.specs.Laws.Searched.{both-lt, only_zero, even-lt}
use Rattle.members.specs.Accepted.{Accepted}
use Rattle.members.proofs.Search.{point-has_word, point-parity}
use Rattle.members.specs.Members.{found-even}

-- ---- the full coder
pub has_word : (t : List Float) → Accepted t → (n : ℕ) → HasWord (point_from (winner_for both_parities n t))
has_word t A n = point-has_word t A n both_parities (zero-lt-suc 1) both-lt

-- the point is accepted, with a word that decodes to it
pub encodes : (t : List Float) → Accepted t → (n : ℕ)
    → words.Accepted (point_from (winner_for both_parities n t)) (encode_of (point_from (winner_for both_parities n t)))
encodes t A n = words.accepts (point_from (winner_for both_parities n t)) (has_word t A n)

-- ---- the even profile
pub has_word-even : (t : List Float) → Accepted t → (n : ℕ) → HasWord (point_from (winner_for even_parities n t))
has_word-even t A n = point-has_word t A n even_parities (zero-lt-suc 0) even-lt

pub encodes-even : (t : List Float) → Accepted t → (n : ℕ)
    → words.Accepted (point_from (winner_for even_parities n t)) (encode_of (point_from (winner_for even_parities n t)))
encodes-even t A n = words.accepts (point_from (winner_for even_parities n t)) (has_word-even t A n)

-- ---- the coordinates have the winner's parity; so in the even profile they are even
pub parity_is : (t : List Float) → Accepted t → (n : ℕ) → OfParity (point_from (winner_for both_parities n t)) (winner_for both_parities n t).p
parity_is t A n = point-parity t A n both_parities (zero-lt-suc 1) both-lt

pub is_even : (t : List Float) → Accepted t → (n : ℕ) → OfParity (point_from (winner_for even_parities n t)) 0
is_even t A n =
    subst (OfParity (point_from (winner_for even_parities n t)))
    (only_zero (winner_for even_parities n t).p (found_among tables (rule_of n) (targets_of t) even_parities (found-even t A n)))
    (point-parity t A n even_parities (zero-lt-suc 0) even-lt)
