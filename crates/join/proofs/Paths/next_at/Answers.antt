-- `join::Paths::next_at` meets its contract. Assumes nothing.
use Rattle.std.proofs.Common.{◌∙◌, ◌+◌, ◌*◌, arith}
use Rattle.trellis.specs.Laws.Path.{next-entry-lt}
use Rattle.join.specs.Laws.{next_is}
use Rattle.join.proofs.Paths.next_at.Goals as goal

pub returns : goal.returns
returns c =
    let a = c.args in
    let e = c.from.ensures ∙ next_is a.self.now.nexts a.self.now.nexts_value a.s a.b (omega arith) (omega arith) in
    (e, rw e (next-entry-lt (a.s * 16 + a.b)))
