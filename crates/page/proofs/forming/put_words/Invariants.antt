-- `put_words` meets its contract. The invariant: writing the lines that are left leaves what writing all of them from `at` on would.
-- Assumes nothing.
use mathlib.Core.Path.{◌≡◌}
use Prim.Native.Nat.{◌+◌, ◌*◌}
use lib.ListN.{length, drop}
use lib.Seq.{sets}
use Rattle.page.specs.Page.{word_lines}
use Rattle.page.proofs.forming.put_words.Given as goal

abbrev pub invariant-loop-word : goal.invariant-loop-word
invariant-loop-word l =
    (length l.out ≡ length l.initial.out) × (l.next ≡ l.at + 18 * l.word-index)
    × (sets l.out l.next (word_lines (drop l.word-index l.words)) ≡ sets l.initial.out l.at (word_lines l.words))
