-- `list::list_line` meets its contract. Assumes nothing.
use mathlib.Core.Path.{◌≡◌, sym, ◌∙◌}
use mathlib.Core.Bool.{true, false}
use Rattle.text.specs.Lines.{begins}
use Rattle.text.specs.Rows.{list_line_at}
use Rattle.text.specs.Laws.Lines.{key_fits}
use Rattle.text.proofs.list.list_line.Goals as goal

pub returns-then-not-starts : goal.returns-then-not-starts
unfolding list_line_at
returns-then-not-starts c =
    let a = c.args in
    let k : begins a.s.now a.key.now ≡ false = sym c.starts.ensures ∙ c.if-not-starts.true in
    rw k

pub numbers-requires : goal.numbers-requires
numbers-requires c = key_fits _ _ (sym c.starts.ensures ∙ c.if-not-starts.false)

pub returns : goal.returns
unfolding list_line_at
returns c =
    let a = c.args in
    let k : begins a.s.now a.key.now ≡ true = sym c.starts.ensures ∙ c.if-not-starts.false in
    rw k c.numbers.ensures
