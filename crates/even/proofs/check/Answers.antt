-- `even::check` meets its contract. Assumes nothing.
use mathlib.Core.Path.{sym}
use native.Mathlib.Omega.{arith}
use Rattle.even.specs.Laws.Word.{number_zero, number-odd}
use Rattle.even.proofs.check.Goals as goal

pub returns-then-word-eq0 : goal.returns-then-word-eq0
returns-then-word-eq0 c = sym ((number_zero c.args.word).1 c.if-word-eq0.true)

pub returns : goal.returns
returns c = sym ((number-odd c.args.word).1 (omega (arith, c.if-word-eq0.false)))
