-- `resolve::close` meets its contract. The invariant: the first i entries are closed. Assumes nothing.
use Rattle.resolve.proofs.InPlace.{Closed}
use Rattle.resolve.proofs.close.Given as goal

abbrev pub invariant-loop-i : goal.invariant-loop-i
invariant-loop-i g l = Closed l.initial.entries l.bounds l.u (g.S.Section.full l.section) g.row.N l.i l.entries
