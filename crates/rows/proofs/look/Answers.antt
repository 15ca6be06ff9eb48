-- `rows::look` meets its contract: a row by its number, or the number of a row. Assumes nothing.
use mathlib.Core.Path.{◌≡◌, sym, ap, ◌∙◌}
use Prim.Native.Nat.{ℕ}
use lib.ListN.{get_or}
use Rattle.rows.specs.Rows.{rows}
use Rattle.rows.specs.Table.{number_of}
use Rattle.rows.specs.Laws.Places.{find_at, find_none}
use Rattle.rows.specs.Laws.Seats.{number-row}
use Rattle.rows.proofs.Search.{read}
use Rattle.rows.proofs.look.Goals as goal

same : {i j : ℕ} → i ≡ j → get_or rows i 0 ≡ get_or rows j 0
same e = ap (λ (n : ℕ). get_or rows n 0) e

pub returns-then-t-i : goal.returns-then-t-i
returns-then-t-i c =
    let p = c.place_of-i in
    rw c.if-back.true
    (sym
    (ap number_of (find_at c.args.x p.result p.ensures.0 (sym (read p.result c.rows-t.ensures) ∙ c.if-t-i.true))
    ∙ number-row p.result p.ensures.0))

pub returns-then-back : goal.returns-then-back
returns-then-back c =
    rw c.if-back.true
    (sym
    (ap number_of
    (find_none c.args.x
    (λ i h e. c.if-t-i.false (read c.place_of-i.result c.rows-t.ensures ∙ same (sym (c.place_of-i.ensures.1 i h e)) ∙ e)))))
