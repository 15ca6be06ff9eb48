-- `rows::mixed_index` meets its contract. Assumes nothing.
use Rattle.std.proofs.Common.{rules, ◌≡◌, ◌∙◌, sym, ap}
use Rattle.std.specs.Prelude.{None}
use Rattle.rows.specs.Table.{position_of, class_index_of, middle_seat, mixed_index_of}
use Rattle.rows.specs.Laws.Seats.{seat-fits}
use Rattle.rows.proofs.mixed_index.Goals as goal

pub returns-in_err-seat : goal.returns-in_err-seat
unfolding mixed_index_of middle_seat
returns-in_err-seat c =
    let none : c.from_residual.result ≡ None = search rules in
    none ∙ sym (ap middle_seat (sym c.class_index.ensures ∙ c.in_err-seat.was))

pub middle_seat-requires : goal.middle_seat-requires
unfolding class_index_of
middle_seat-requires c =
    let s = c.in_ok-seat.seat in
    seat-fits (position_of c.args.rho) s.class s.index (sym c.class_index.ensures ∙ c.in_ok-seat.was)

pub returns : goal.returns
unfolding mixed_index_of
returns c = c.middle_seat.ensures ∙ ap middle_seat (sym c.in_ok-seat.was ∙ c.class_index.ensures)
