-- `block_at` meets its contract: a line, and the other where the first ends. Assumes nothing.
use borrow.Author.Rules.{rules}
use native.Mathlib.Omega.{arith}
use mathlib.Core.Path.{◌≡◌, sym, ap, ◌∙◌}
use mathlib.Core.List.{List}
use Prim.Native.Nat.{ℕ, ◌+◌, ◌≤◌}
use lib.IntN.{ℤ}
use lib.ListN.{length, drop, length-drop}
use Rattle.std.specs.Prelude.{Some}
use Rattle.text.specs.Text.{bytes}
use Rattle.text.specs.Lines.{decimal_line_at}
use Rattle.text.specs.Rows.{list_line_at}
use Rattle.text.specs.Laws.Lines.{decimal-rule, tail, line-fits}
use Rattle.text.specs.Laws.Rows.{list-rule}
use Rattle.trace.specs.Reader.{block_at}
use Rattle.trace.proofs.block_at.Goals as goal
use Rattle.trace.proofs.block_at.Goals.{After-list_line}

-- the first line stands within the text
fits : (s : List ℕ) (i v n : ℕ) → decimal_line_at (bytes "block=") i i s ≡ Some (v, n) → n ≤ length s
fits s i v n e = line-fits _ _ _ (decimal-rule (bytes "block=") i i) s v n e

-- ---- the row behind it
row : (c : After-list_line) → c.list_line.result ≡ list_line_at (bytes "counts=") (drop c.in_ok-first.first c.args.s.now)
row c = c.list_line.ensures ∙ ap (list_line_at (bytes "counts=")) (tail c.args.s.now c.in_ok-first.first)

-- both lines stand within the text
room : (s : List ℕ) (i v n : ℕ) (zs : List ℤ) (m : ℕ) → decimal_line_at (bytes "block=") i i s ≡ Some (v, n)
    → list_line_at (bytes "counts=") (drop n s) ≡ Some (zs, m) → n + m ≤ length s
room s i v n zs m h r =
    omega (arith, fits s i v n h, line-fits _ _ _ (list-rule (bytes "counts=")) (drop n s) zs m r, length-drop n s)

pub returns-in_err-first : goal.returns-in_err-first
unfolding block_at
returns-in_err-first c =
    let e = sym c.decimal_line.ensures ∙ c.in_err-first.was in
    rw e c.from_residual.ensures

pub slice_bounds-list_line-count : goal.slice_bounds-list_line-count
slice_bounds-list_line-count c = fits c.args.s.now c.args.index _ _ (sym c.in_ok-first.ensures)

pub slice_bounds-list_line-start : goal.slice_bounds-list_line-start
slice_bounds-list_line-start c = fits c.args.s.now c.args.index _ _ (sym c.in_ok-first.ensures)

pub returns-in_err-values : goal.returns-in_err-values
unfolding block_at
returns-in_err-values c =
    let r = sym (row (goal.at.returns-in_err-values c).After-list_line) ∙ c.in_err-values.was in
    rw (← c.in_ok-first.ensures, r) c.from_residual-in_err-values.ensures

pub overflow_add-result : goal.overflow_add-result
overflow_add-result c =
    let r = sym (row (goal.at.overflow_add-result c).After-list_line) ∙ c.in_ok-values.was in
    let k = room c.args.s.now c.args.index _ _ _ _ (sym c.in_ok-first.ensures) r in
    search rules

pub returns : goal.returns
unfolding block_at
returns c =
    let r = sym (row (goal.at.returns c).After-list_line) ∙ c.in_ok-values.was in
    rw (← c.in_ok-first.ensures, r)
