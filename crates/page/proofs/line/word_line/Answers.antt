-- `line::word_line` meets its contract. Assumes nothing.
use borrow.Author.Tests.{eq-eqb, ne_eqb}
use mathlib.Core.Path.{◌≡◌, sym, ◌∙◌, ap}
use mathlib.Core.Bool.{true, false}
use lib.ListN.{drop}
use Rattle.text.specs.Text.{bytes}
use Rattle.text.specs.Lines.{begins, hex_at}
use Rattle.text.specs.Laws.Lines.{key_fits, tail}
use Rattle.page.specs.Reader.{word_line_at}
use Rattle.page.proofs.line.word_line.Goals as goal
use Rattle.page.proofs.line.word_line.Goals.{After-hex, Else-not-starts}

-- the key is there
key : (c : Else-not-starts) → begins c.args.s.now (bytes "word=") ≡ true
key c = sym c.starts.ensures ∙ c.if-not-starts.false

-- the twelve digits behind the key
digits : (c : After-hex) → c.hex.result ≡ hex_at 12 (drop 5 c.args.s.now)
digits c = c.hex.ensures ∙ ap (hex_at 12) (tail c.args.s.now 5)

pub returns-then-not-starts : goal.returns-then-not-starts
unfolding word_line_at
returns-then-not-starts c =
    let s = c.args.s.now in
    let k : begins s (bytes "word=") ≡ false = sym c.starts.ensures ∙ c.if-not-starts.true in
    rw k

pub slice_bounds-hex-count : goal.slice_bounds-hex-count
slice_bounds-hex-count c = key_fits _ _ (key (goal.at.slice_bounds-hex-count c).Else-not-starts)

pub slice_bounds-hex-start : goal.slice_bounds-hex-start
slice_bounds-hex-start c = key_fits _ _ (key (goal.at.slice_bounds-hex-start c).Else-not-starts)

pub returns-in_err-w : goal.returns-in_err-w
unfolding word_line_at
returns-in_err-w c =
    let e = sym (digits (goal.at.returns-in_err-w c).After-hex) ∙ c.in_err-w.was in
    rw (key (goal.at.returns-in_err-w c).Else-not-starts, e) c.from_residual.ensures

pub returns-then-byte_at-ne10 : goal.returns-then-byte_at-ne10
unfolding word_line_at
returns-then-byte_at-ne10 c =
    let e = sym (digits (goal.at.returns-then-byte_at-ne10 c).After-hex) ∙ c.in_ok-w.was in
    rw (key (goal.at.returns-then-byte_at-ne10 c).Else-not-starts, e, ← c.byte_at.ensures, ne_eqb _ _ c.if-byte_at-ne10.true)

pub returns : goal.returns
unfolding word_line_at
returns c =
    let e = sym (digits (goal.at.returns c).After-hex) ∙ c.in_ok-w.was in
    rw (key (goal.at.returns c).Else-not-starts, e, ← c.byte_at.ensures, eq-eqb _ _ c.if-byte_at-ne10.false)
