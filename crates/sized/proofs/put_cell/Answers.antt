-- `put_cell` meets its contract: three pieces, one behind the other. Assumes nothing.
use Rattle.std.proofs.Common.{refl, ◌∙◌, ap, length, arith, append_assoc}
use mir.Facts.{to_z-of_z}
use Rattle.text.specs.Text.{bytes, signed}
use Rattle.text.specs.Laws.Printed.{Said, said-text, said-more}
use Rattle.sized.proofs.put_cell.Goals as goal

pub returns : goal.returns
returns c =
    let a = c.args in
    let key = a.key.now in
    let old = a.lines.now in
    let l0 : Said old (length old) old = record { is = refl; near = omega arith } in
    let l1 = said-text l0 key (omega (arith, c.requires)) c.put.ensures in
    let l2 = said-more l1 (signed a.z) 11 (rw (to_z-of_z c.ranges.z) at c.put_signed.ensures.most) (omega (arith, c.requires)) (rw (to_z-of_z c.ranges.z) at c.put_signed.ensures.after) in
    let l3 = said-text l2 (bytes "\n") (omega (arith, c.requires)) c.put-2.ensures in
    record { text = l3.is ∙ simp append_assoc; most = omega (arith, ap length l3.is, l3.near) }
