-- `piece::put_decimal` meets its contract: the digits are written into an array, and put from there. Assumes nothing.
use Rattle.std.proofs.Common.{◌≡◌, sym, arith, length, take}
use Rattle.std.proofs.lemmas.List.{length-take-le}
use Rattle.text.specs.Laws.Placed.{front_back}
use Rattle.text.specs.Text.{decimal}
use Rattle.text.proofs.Digits.{twenty}
use Rattle.text.proofs.piece.put_decimal.Goals as goal

pub digits-k-requires : goal.digits-k-requires
digits-k-requires c = omega (arith, twenty c.args.n (omega arith))

pub slice_bounds-piece-end : goal.slice_bounds-piece-end
slice_bounds-piece-end c = omega (arith, c.digits-k.ensures.0, c.digits-k.auto.out, twenty c.args.n (omega arith))

pub slice_bounds-put-end : goal.slice_bounds-put-end
slice_bounds-put-end c =
    sym (length-take-le _ _ (omega (arith, c.digits-k.ensures.0, c.digits-k.auto.out, twenty c.args.n (omega arith))))

pub returns : goal.returns
returns c =
    let d = c.digits-k in
    let t = decimal c.args.n in
    let k : d.result ≡ length t = omega (arith, d.ensures.0) in
    let e : take d.result d.new.out ≡ t = rw (k, d.ensures.1) (front_back _ t (omega (arith, twenty c.args.n (omega arith)))) in
    let q = c.put.ensures in
    record { value = rw e at q.value; out_after = rw e at q.out_after }
