-- `slices::put_point` meets its contract. Assumes nothing.
use mathlib.Core.Path.{◌≡◌, sym, ◌∙◌}
use native.Mathlib.Omega.{arith}
use borrow.Author.Rules.{rules}
use lib.IntN.{ℤ}
use lib.ListN.{length}
use Rattle.laws.specs.Laws.Lists.{store_end}
use Rattle.yultarvas.proofs.Fronts.{put}
use Rattle.yultarvas.proofs.slices.put_point.Goals as goal

pub returns : goal.returns
returns c =
    let l = c.loop-j in
    let a = c.args in
    let n : length a.y ≡ 24 = search rules in
    sym (store_end ℤ a.y l.out 0 l.j (omega arith)) ∙ l.invariant.2 ∙ put ℤ 24 a.y a.out.now n c.requires
