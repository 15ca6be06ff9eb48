-- `parse` meets its contract: the num line, and the blocks behind it. Assumes nothing.
use native.Mathlib.Omega.{arith}
use mathlib.Core.Path.{◌≡◌, sym, ap, ◌∙◌}
use mathlib.Core.List.{List}
use Prim.Native.Nat.{ℕ, ◌-◌, ◌≤◌}
use lib.ListN.{length, take, drop}
use Rattle.std.specs.Prelude.{Some}
use Rattle.text.specs.Text.{bytes}
use Rattle.text.specs.Lines.{decimal_line_at}
use Rattle.text.specs.Laws.Lines.{decimal-rule, tail, line-fits}
use Rattle.trace.specs.Answer.{traced_of}
use Rattle.trace.specs.Reader.{blocks_at, trace_in}
use Rattle.trace.proofs.parse.Goals as goal

-- ---- the num line is there: its value, and its length
module _ (s : List ℕ) (num n : ℕ) (first : decimal_line_at (bytes "num=") 0 4294967295 s ≡ Some (num, n)) where
  fits : n ≤ length s
  fits = line-fits _ _ _ (decimal-rule (bytes "num=") 0 4294967295) s num n first

  num_most : num ≤ 4294967295
  num_most = ((decimal-rule (bytes "num=") 0 4294967295).only s num n first).0.1

  -- what is read behind it
  behind : blocks_at num 0 64 (take (length s - n) (drop n s)) ≡ trace_in s
  unfolding trace_in
  behind = rw (first, tail s n)

pub returns-in_default : goal.returns-in_default
unfolding traced_of trace_in
returns-in_default c =
    let e = sym c.decimal_line.ensures ∙ c.in_default.is in
    rw e

pub slice_bounds-blocks_of-count : goal.slice_bounds-blocks_of-count
slice_bounds-blocks_of-count c = fits c.args.text.now _ _ (sym c.decimal_line.ensures ∙ c.in-Some.is)

pub slice_bounds-blocks_of-start : goal.slice_bounds-blocks_of-start
slice_bounds-blocks_of-start c = fits c.args.text.now _ _ (sym c.decimal_line.ensures ∙ c.in-Some.is)

pub overflow_cast-num : goal.overflow_cast-num
overflow_cast-num c = omega (arith, num_most c.args.text.now _ _ (sym c.decimal_line.ensures ∙ c.in-Some.is))

pub returns : goal.returns
returns c = c.blocks_of.ensures ∙ ap traced_of (behind c.args.text.now _ _ (sym c.decimal_line.ensures ∙ c.in-Some.is))
