-- `rows::middle_seat` meets its contract. Assumes nothing.
use mathlib.Core.Path.{sym, subst}
use Prim.Native.Nat.{ℕ, ◌<◌, ◌≤◌}
use Rattle.rows.specs.Laws.Seats.{middle_used, middle_unused}
use Rattle.rows.proofs.middle_seat.Goals as goal

pub returns-then-index-middle_rows : goal.returns-then-index-middle_rows
returns-then-index-middle_rows c =
    let s = c.args.seat in
    sym (middle_used s.class s.index (subst (λ (n : ℕ). s.index < n) c.middle_rows.ensures c.if-index-middle_rows.true))

pub returns : goal.returns
returns c =
    let s = c.args.seat in
    sym (middle_unused s.class s.index (subst (λ (n : ℕ). n ≤ s.index) c.middle_rows.ensures c.if-index-middle_rows.false))
