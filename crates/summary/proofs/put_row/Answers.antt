-- `put_row` meets its contract. Assumes nothing.
use borrow.Author.Rules.{rules}
use native.Mathlib.Omega.{arith}
use mathlib.Core.Path.{◌≡◌, ap, ◌∙◌}
use Prim.Native.Nat.{◌+◌, ◌-◌}
use borrow.Rule.Slice.PartMut.{put_mid}
use lib.IntN.{ℤ}
use lib.ListN.{length}
use lib.Seq.{sets}
use Rattle.page.proofs.Filling.{put_part}
use Rattle.summary.proofs.put_row.Goals as goal

pub returns : goal.returns
returns c =
    let a = c.args in
    let k = a.at + 4 - a.at in
    let n : length c.cells.result ≡ 4 = search rules in
    ap (put_mid a.at k a.rows.now) c.copy_from_slice.ensures.after
    ∙ put_part ℤ a.at k c.cells.result a.rows.now (omega (arith, n)) (omega (arith, c.requires))
    ∙ ap (sets a.rows.now a.at) c.cells.ensures
