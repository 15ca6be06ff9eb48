-- `line::format_line` meets its contract. Assumes nothing.
use mathlib.Core.Path.{◌≡◌, sym, ◌∙◌}
use mathlib.Core.Bool.{true, false}
use Rattle.text.specs.Lines.{begins}
use Rattle.page.specs.Page.{format_line}
use Rattle.page.specs.Reader.{format_at}
use Rattle.page.proofs.line.format_line.Goals as goal

pub returns-then-starts : goal.returns-then-starts
unfolding format_at format_line
returns-then-starts c =
    let k : begins c.args.s.now format_line ≡ true = sym c.starts.ensures ∙ c.if-starts.true in
    rw k

pub returns : goal.returns
unfolding format_at format_line
returns c =
    let k : begins c.args.s.now format_line ≡ false = sym c.starts.ensures ∙ c.if-starts.false in
    rw k
