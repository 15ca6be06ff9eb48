-- `join::join` meets its contract: the best of all paths runs through entries. Assumes nothing.
use Rattle.std.proofs.Common.{◌≡◌, ◌%◌, arith}
use Rattle.search.specs.Tables.{tables}
use Rattle.search.specs.Join.{join}
use Rattle.join.specs.Laws.{in_join}
use Rattle.join.proofs.join.Goals as goal

pub returns : goal.returns
returns c =
    let s = c.args in
    let q : c.best_way.result ≡ join tables (s.p % 2) s.sides.now = rw (c.new.ensures.0, c.new.ensures.1) at c.best_way.ensures in
    (q, rw q (in_join (s.p % 2) s.sides.now 128 (omega arith)))
