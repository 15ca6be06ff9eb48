-- `put_words` meets its contract. The invariant: writing the lines that are left leaves what writing all of them from `at` on would.
-- Assumes nothing.
use native.Mathlib.Omega.{arith}
use mathlib.Core.Path.{sym, ◌∙◌}
use Rattle.page.proofs.Filling.{lines_next, lines_end}
use Rattle.page.proofs.forming.put_words.Goals as goal

pub loop-word-preserved : goal.loop-word-preserved
loop-word-preserved c =
    let l = c.loop-word in
    let q = c.put_word-next.ensures in
    let e = lines_next c.args.words.now l.word-index (omega arith) l.out l.next in (
      c.put_word-next.auto.out ∙ l.invariant.0,
      omega (arith, q.0, l.invariant.1),
      rw (q.0, q.1) (sym e ∙ l.invariant.2),
    )

pub returns : goal.returns
returns c =
    let l = c.loop-word in
    let e = lines_end c.args.words.now l.word-index (omega arith) in
    (omega (arith, l.invariant.1), rw e at l.invariant.2)
