-- `words_of` meets its contract. The invariant is `Kept`: the words read so far are in the array, and reading on from here gives what
-- reading from the start does. Assumes nothing.
use Rattle.page.proofs.Words.{Kept}
use Rattle.page.proofs.words_of.Given as goal

abbrev pub invariant-loop-i : goal.invariant-loop-i
invariant-loop-i l = Kept l.text l.num l.count l.words l.at l.i
