-- `piece::put_signed` meets its contract: the sign and the digits are written into an array, and put from there. Assumes nothing.
use Rattle.std.proofs.Common.{◌≡◌, arith, length, take}
use mir.Facts.{to_z-of_z}
use Rattle.text.specs.Laws.Placed.{front_back}
use Rattle.text.specs.Text.{signed}
use Rattle.text.proofs.piece.put_signed.Goals as goal

pub returns : goal.returns
returns c =
    let d = c.signed-k in
    let t = signed c.args.z in
    let z = to_z-of_z c.ranges.z in
    let m = d.ensures.1 in
    let k : d.result ≡ length t = omega (arith, rw z at d.ensures.0) in
    let e : take d.result d.new.out ≡ t = rw (k, rw z at d.ensures.2) (front_back _ t (omega (arith, m, k))) in
    let q = c.put.ensures in
    record { value = rw e at q.value; out_after = (rw e at q.out_after, omega (arith, m, k)) }
