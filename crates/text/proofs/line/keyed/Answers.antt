-- `line::keyed` meets its contract. Assumes nothing.
use mathlib.Core.Path.{◌≡◌, sym, ◌∙◌, ap}
use mathlib.Core.Bool.{true}
use native.Mathlib.Omega.{arith}
use lib.ListN.{length, drop, length-drop}
use Rattle.std.specs.Prelude.{Some}
use Rattle.text.specs.Lines.{begins, decimal_at}
use Rattle.text.specs.Laws.Lines.{key_fits, tail}
use Rattle.text.proofs.Reading.{decimal_room}
use Rattle.text.proofs.line.keyed.Goals as goal
use Rattle.text.proofs.line.keyed.Goals.{Else-not-starts, In_ok-v}

-- the key is there
key : (c : Else-not-starts) → begins c.args.s.now c.args.key.now ≡ true
key c = sym c.starts.ensures ∙ c.if-not-starts.false

-- the number behind the key: its value and its length
value : (c : In_ok-v)
    → let a = c.args in
    decimal_at a.end a.most 0 0 (drop (length a.key.now) a.s.now) ≡ Some (c.in_ok-v.v, c.in_ok-v.n)
value c =
    let a = c.args in
    sym (c.in_ok-v.ensures ∙ ap (decimal_at a.end a.most 0 0) (tail a.s.now (length a.key.now)))

pub slice_bounds-decimal-count : goal.slice_bounds-decimal-count
slice_bounds-decimal-count c = key_fits _ _ (key (goal.at.slice_bounds-decimal-count c).Else-not-starts)

pub slice_bounds-decimal-start : goal.slice_bounds-decimal-start
slice_bounds-decimal-start c = key_fits _ _ (key (goal.at.slice_bounds-decimal-start c).Else-not-starts)

pub overflow_add-result : goal.overflow_add-result
overflow_add-result c =
    let a = c.args in
    omega (
      arith,
      c.well_formed.0.0,
      key_fits a.s.now a.key.now (key (goal.at.overflow_add-result c).Else-not-starts),
      decimal_room a.end a.most (drop (length a.key.now) a.s.now) _ _ (value (goal.at.overflow_add-result c).In_ok-v),
      length-drop (length a.key.now) a.s.now,
    )
