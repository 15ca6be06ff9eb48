-- `put_block` meets its contract. Assumes nothing.
use borrow.Author.Rules.{rules}
use native.Mathlib.Omega.{arith}
use mathlib.Core.Path.{◌≡◌, ap, ◌∙◌}
use Prim.Native.Nat.{◌+◌, ◌-◌}
use borrow.Rule.Slice.PartMut.{put_mid}
use lib.IntN.{ℤ}
use lib.ListN.{length}
use Rattle.page.proofs.Filling.{put_part}
use Rattle.trace.proofs.put_block.Goals as goal

pub returns : goal.returns
returns c =
    let a = c.args in
    let k = a.at + 24 - a.at in
    let n : length a.values ≡ 24 = search rules in
    ap (put_mid a.at k a.out.now) c.copy_from_slice.ensures.after
    ∙ put_part ℤ a.at k a.values a.out.now (omega (arith, n)) (omega (arith, c.requires))
