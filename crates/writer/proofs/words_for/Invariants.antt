-- The invariant of `writer::words_for`: every place before i holds the word of its block. Assumes nothing.
use Rattle.laws.specs.Laws.Filled.{Filled}
use Rattle.writer.specs.Writer.{word_for}
use Rattle.writer.proofs.words_for.Given as goal

abbrev pub invariant-loop-i : goal.invariant-loop-i
invariant-loop-i l = Filled 0 (word_for l.scale l.samples) 64 l.i l.words
