-- `words_of` meets its contract. The invariant is `Kept`: the words read so far are in the array, and reading on from here gives what
-- reading from the start does. Assumes nothing.
use native.Mathlib.Omega.{arith}
use mathlib.Core.Path.{◌≡◌, sym, ap, ◌∙◌}
use mathlib.Core.List.{List}
use Prim.Native.Nat.{ℕ, ◌+◌, ◌≤◌}
use lib.ListN.{length, drop, length-drop}
use Rattle.std.specs.Prelude.{Some}
use Rattle.text.specs.Laws.Lines.{tail, line-fits}
use Rattle.page.specs.Page.{word_line}
use Rattle.page.specs.Answer.{parsed_of}
use Rattle.page.specs.Reader.{word_line_at}
use Rattle.page.specs.Laws.Reader.{word_rule}
use Rattle.page.proofs.Words.{kept-bad, kept_long, kept_end, kept_next}
use Rattle.page.proofs.words_of.Goals as goal
use Rattle.page.proofs.words_of.Goals.{After-word_line, In-Some}

-- the text, and what is left of it
abbrev text : After-word_line → List ℕ
text c = c.args.text.now

abbrev rest : After-word_line → List ℕ
rest c = drop c.loop-i.at (text c)

-- the line at `at`
answer : (c : After-word_line) → c.word_line.result ≡ word_line_at (rest c)
answer c =
    c.word_line.ensures
    ∙ ap word_line_at (tail c.args.text.now c.loop-i.at)

-- the word and its line's length
word : (c : In-Some) → word_line_at (drop c.loop-i.at c.args.text.now) ≡ Some (c.in-Some.word, c.in-Some.n)
word c = sym (c.word_line.ensures ∙ ap word_line_at (tail c.args.text.now c.loop-i.at)) ∙ c.in-Some.is

-- the line stands within the text
room : (c : In-Some)
    → c.loop-i.at + c.in-Some.n ≤ length c.args.text.now
room c =
    let l = c.loop-i in
    let s = c.args.text.now in
    omega (arith, l.invariant.inside, line-fits word_line_at _ word_line word_rule (drop l.at s) _ _ (word c), length-drop l.at s)

pub returns-in_default : goal.returns-in_default
unfolding parsed_of
returns-in_default c =
    let l = c.loop-i in
    let a = c.args in
    let e = sym (answer (goal.at.returns-in_default c).After-word_line) ∙ c.in_default.is in
    ap parsed_of (sym (kept-bad a.text.now a.num a.count l.words l.at l.i l.invariant (omega arith) e))

pub overflow_add-at : goal.overflow_add-at
overflow_add-at c = omega (arith, room (goal.at.overflow_add-at c).In-Some, c.well_formed.0.0)

pub loop-i-preserved : goal.loop-i-preserved
loop-i-preserved c =
    let l = c.loop-i in
    let a = c.args in
    kept_next a.text.now a.num a.count l.words l.at l.i _ _ l.invariant (omega arith) c.requires.2 (word (goal.at.loop-i-preserved c).In-Some) (room (goal.at.loop-i-preserved c).In-Some)

pub returns-then-at-text : goal.returns-then-at-text
unfolding parsed_of
returns-then-at-text c =
    let l = c.loop-i in
    let a = c.args in
    ap parsed_of (sym (kept_long a.text.now a.num a.count l.words l.at l.i l.invariant (omega arith) c.if-at-text.true))

pub returns : goal.returns
returns c =
    let l = c.loop-i in
    let a = c.args in
    kept_end a.text.now a.num a.count l.words l.at l.i l.invariant c.requires.2 (omega arith) c.if-at-text.false
