-- `resolve::starts` meets its contract. The invariant: the first i entries are made. Assumes nothing.
use Rattle.laws.specs.Laws.Filled.{Filled}
use Rattle.search.specs.Join.{no_entry}
use Rattle.resolve.proofs.starts.Given as goal

abbrev pub invariant-loop-i : goal.invariant-loop-i
invariant-loop-i g l = Filled no_entry (g.S.Section.start l.section (g.S.Section.bases l.section)) g.row.N l.i l.out
