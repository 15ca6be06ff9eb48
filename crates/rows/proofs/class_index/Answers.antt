-- `rows::class_index` meets its contract. Assumes nothing.
use Rattle.std.proofs.Common.{rules, ◌≡◌, ◌∙◌, sym, ap, arith, ℕ}
use Rattle.std.specs.Prelude.{option_map}
use Rattle.laws.specs.Laws.Tests.{true_is}
use Rattle.rank.specs.Vector.{ranks_below, pack}
use Rattle.rank.specs.Laws.Vector.{below_up, packed_is}
use Rattle.rows.specs.Table.{number_of, find_of, seat_of, seat_at, class_index_of}
use Rattle.rows.specs.Laws.Places.{position_small, position_big}
use Rattle.rows.specs.Laws.Seats.{seat-none, seat-number}
use Rattle.rows.proofs.class_index.Goals as goal

pub returns-then-all_below : goal.returns-then-all_below
unfolding class_index_of
returns-then-all_below c =
    let v = c.args.rho in
    let small = sym c.all_below.ensures ∙ c.if-all_below.true in
    let told : c.map.result ≡ option_map seat_of c.find.result = search rules in
    told
    ∙ ap (option_map seat_of) (c.find.ensures
    ∙ ap (λ (w : ℕ). number_of (find_of w)) (c.pack.ensures ∙ packed_is v (below_up 5 16 (omega arith) v (true_is (ranks_below 5 v) small))))
    ∙ seat-number (find_of (pack v))
    ∙ sym (ap seat_at (position_small v small))

pub returns : goal.returns
unfolding class_index_of
returns c =
    let v = c.args.rho in
    sym (ap seat_at (position_big v (sym c.all_below.ensures ∙ c.if-all_below.false)) ∙ seat-none 4096 (omega arith))
