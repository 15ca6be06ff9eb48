-- `listing::under_cap`: with no coordinate open the row itself is the listing; in the loop, what the call lists and what is left after it make up what
-- was left. Assumes nothing.
use Rattle.std.proofs.Common.{◌≡◌, refl, ap, sym, ◌∙◌, ◌++◌, ℕ, ◌+◌, ◌-◌, ◌*◌, ◌^◌, ◌<◌, arith, length, length-append}
use Rattle.std.proofs.lemmas.List.Edits.{sets}
use Rattle.std.proofs.Math.Seq.{length-sets}
use Rattle.laws.specs.Laws.Lists.{sets-append}
use Rattle.rank.specs.Vector.{sq}
use Rattle.listing.specs.Listing.{under}
use Rattle.listing.specs.Laws.Growth.{below_six}
use Rattle.listing.proofs.Stored.{room_left, stored_from}
use Rattle.listing.proofs.Rest.{under_none, rest_of, rest_all, rest_more, rest_none}
use Rattle.listing.proofs.+under_cap.Goals as goal

-- ---- no coordinate is open
pub bounds-out-0 : goal.bounds-out-0
bounds-out-0 t c =
    let a = c.args in
    let e = under_none a.left a.row a.spent c.if-left-eq0.true in
    omega (arith, ap length e)

pub returns-then-left-eq0 : goal.returns-then-left-eq0
returns-then-left-eq0 t c =
    let a = c.args in
    let e = under_none a.left a.row a.spent c.if-left-eq0.true in
    (omega (arith, ap length e), rw e refl)

-- ---- the loop over the ranks of the first open coordinate
pub loop-r-init : goal.loop-r-init
loop-r-init t c =
    let a = c.args in
    let e = rest_all a.left a.row a.spent (omega arith) in
    (omega arith, refl, omega (arith, ap length e), ap (sets a.out.now 0) (sym e))

-- the rank of this turn is below 6
six : (left spent r cost : ℕ) → cost ≡ sq r → spent + cost + (left - 1) < 128 → r < 6
six left spent r cost e h = below_six r (spent + (left - 1)) (omega arith)

-- what was left is what the call lists, and what is left after it
more : (left row spent r cost next : ℕ) → cost ≡ sq r → spent + cost + (left - 1) < 128 → next ≡ row + r * 2 ^ (4 * (7 - (left - 1)))
    → rest_of (left - 1) row spent r ≡ under (left - 1) next (spent + cost) ++ rest_of (left - 1) row spent (r + 1)
more left row spent r cost next e h n = rest_more (left - 1) row spent r next (spent + cost) n (omega arith) (omega arith)

pub under_cap-at-requires : goal.under_cap-at-requires
under_cap-at-requires t c =
    let a = c.args in
    let l = c.loop-r in
    let e : 7 - (a.left - 1) + 1 ≡ 8 - (a.left - 1) = omega arith in
    let listed = under (a.left - 1) c.with_rank-next.result (a.spent + c.square.result) in
    let m = more a.left a.row a.spent l.r c.square.result c.with_rank-next.result c.square.ensures.0 c.if-cost-rest-ge-COST_CAP.false
    c.with_rank-next.ensures.0 in
    let long = ap length m ∙ length-append listed (rest_of (a.left - 1) a.row a.spent (l.r + 1)) in (
      omega arith,
      (
        omega arith,
        omega arith,
        rw e at c.with_rank-next.ensures.1,
        room_left listed l.out l.at (omega (arith, c.requires.3, l.invariant.1, l.invariant.2, long)),
      ),
    )

pub overflow_add-at : goal.overflow_add-at
overflow_add-at t c =
    let a = c.args in
    let l = c.loop-r in
    let listed = under (a.left - 1) c.with_rank-next.result (a.spent + c.square.result) in
    let m = more a.left a.row a.spent l.r c.square.result c.with_rank-next.result c.square.ensures.0 c.if-cost-rest-ge-COST_CAP.false
    c.with_rank-next.ensures.0 in
    let long = ap length m ∙ length-append listed (rest_of (a.left - 1) a.row a.spent (l.r + 1)) in
    omega (arith, c.requires.3, c.under_cap-at.ensures.0, l.invariant.2, long)

pub loop-r-preserved : goal.loop-r-preserved
loop-r-preserved t c =
    let a = c.args in
    let l = c.loop-r in
    let f = c.under_cap-at in
    let listed = under (a.left - 1) c.with_rank-next.result (a.spent + c.square.result) in
    let later = rest_of (a.left - 1) a.row a.spent (l.r + 1) in
    let m = more a.left a.row a.spent l.r c.square.result c.with_rank-next.result c.square.ensures.0 c.if-cost-rest-ge-COST_CAP.false
    c.with_rank-next.ensures.0 in
    let long = ap length m ∙ length-append listed later in
    let r : l.r < 6 = six a.left a.spent l.r c.square.result c.square.ensures.0 c.if-cost-rest-ge-COST_CAP.false in
    let s = stored_from listed l.out l.at (omega (arith, c.requires.3, l.invariant.1, l.invariant.2, long)) f.ensures.1 in (
      omega arith,
      rw s (length-sets l.out l.at listed ∙ l.invariant.1),
      omega (arith, f.ensures.0, long, l.invariant.2),
      rw (s, f.ensures.0) (sym (sets-append ℕ listed later l.out l.at) ∙ ap (sets l.out l.at) (sym m) ∙ l.invariant.3),
    )

pub returns-then-cost-rest-ge-COST_CAP : goal.returns-then-cost-rest-ge-COST_CAP
returns-then-cost-rest-ge-COST_CAP t c =
    let a = c.args in
    let l = c.loop-r in
    let e = rest_none (a.left - 1) a.row a.spent l.r (omega (arith, c.square.ensures.0, c.if-cost-rest-ge-COST_CAP.true)) in
    (omega (arith, ap length e, l.invariant.2), ap (sets l.out l.at) (sym e) ∙ l.invariant.3)
