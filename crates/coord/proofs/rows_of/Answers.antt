-- `coord::rows_of` meets its contract: a slot more, a record more, and all the rows. Assumes nothing.
use Rattle.std.proofs.Common.{◌≡◌, ◌∙◌, ◌+◌, ◌*◌, ◌%◌, SFits, w32, arith, rules}
use Rattle.std.proofs.lemmas.Int.{to_z-of_z}
use Rattle.coord.proofs.Filled.{ones-more, fives-more, rows_all, record_is}
use Rattle.coord.proofs.rows_of.Goals as goal

pub loop-f-preserved : goal.loop-f-preserved
loop-f-preserved c =
    let l = c.loop-f in
    let r = c.record_at-c in
    let i = c.loop-i.i in
    let s = c.args in
    let hc = r.ensures ∙ record_is s.t (s.p % 2) i (omega arith) in
    (omega arith, fives-more _ l.dist l.weight l.rank i l.f r.result (omega arith) (omega arith) hc l.invariant.1)

pub loop-i-preserved : goal.loop-i-preserved
loop-i-preserved c =
    let l = c.loop-i in
    let l2 = c.loop-f in
    let r = c.record_at-c in
    let s = c.args in
    let hc = r.ensures ∙ record_is s.t (s.p % 2) l.i (omega arith) in
    let k : SFits w32 r.result.k0 = search rules in
    let d : SFits w32 r.result.dir = search rules in
    let o = simp to_z-of_z at c.parity.ensures.0 in
    let b = simp to_z-of_z at c.above.ensures in
    let q : 5 * l.i + l2.f ≡ 5 * (l.i + 1) = omega arith in (
      omega arith,
      (ones-more _ l.regret l.odd l.up l.i r.result (omega arith) hc o b l.invariant.1.0, rw q at l2.invariant.1),
    )

pub returns : goal.returns
returns c =
    let l = c.loop-i in
    let q : l.i ≡ 128 = omega arith in
    rows_all _ l.regret l.dist l.weight l.rank l.odd l.up q l.invariant.1.0 l.invariant.1.1
