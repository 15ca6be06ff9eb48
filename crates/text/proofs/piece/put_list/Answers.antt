-- `piece::put_list` meets its contract: the numbers are written into an array, and put from there. Assumes nothing.
use Rattle.std.proofs.Common.{◌≡◌, arith, length, take}
use Rattle.text.specs.Laws.Placed.{front_back}
use Rattle.text.specs.Text.{listed}
use Rattle.text.proofs.piece.put_list.Goals as goal

pub returns : goal.returns
returns c =
    let d = c.list-k in
    let t = listed c.args.zs in
    let m = d.ensures.1 in
    let k : d.result ≡ length t = omega (arith, d.ensures.0) in
    let e : take d.result d.new.out ≡ t = rw (k, d.ensures.2) (front_back _ t (omega (arith, m, k))) in
    let q = c.put.ensures in
    record { value = rw e at q.value; out_after = (rw e at q.out_after, omega (arith, m, k)) }
