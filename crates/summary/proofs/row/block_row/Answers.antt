-- `row::block_row` meets its contract. Assumes nothing.
use borrow.Author.Rules.{rules}
use native.Mathlib.Omega.{arith}
use mathlib.Core.Path.{◌≡◌, refl, sym, ap, ◌∙◌}
use Prim.Native.Nat.{ℕ, ◌+◌, ◌%◌, ◌≤◌, ◌<◌}
use mathlib.Core.List.{List}
use lib.IntN.{ℤ, pos, nat_abs, ◌+ℤ◌, ◌*ℤ◌}
use lib.ListN.{length, get_or, take}
use lib.Seq.{take_all}
use mir.Syntax.{w32}
use mir.Val.{SFits, to_z, of_z}
use mir.Facts.{to_z-of_z, to_z_pos}
use Rattle.laws.specs.Words.{square, norm}
use Rattle.tetra.specs.Tetra.{point_of}
use Rattle.tetra.specs.Demand2.{coordinate-small}
use Rattle.summary.specs.Summary.{larger, smaller, taken, row_of, block_row}
use Rattle.summary.specs.Laws.Rows.{block-sum}
use Rattle.page.proofs.Counting.{small-fits}
use Rattle.summary.proofs.Blocks.{square_is, square_most, pos-fits, norm_front, norm-next, taken_next}
use Rattle.summary.proofs.Orders.{max_is}
use Rattle.summary.proofs.row.block_row.Goals as goal

-- the coordinate at j, its square, and the sum before j
coordinate : (w j : ℕ) (p : List ℤ) → p ≡ point_of w → j < 24 → nat_abs (get_or p j (pos 0)) ≤ 10
coordinate w j p e h = rw e (coordinate-small w j h)

back : (y : ℤ) → nat_abs y ≤ 10 → to_z w32 (of_z w32 y) ≡ y
back y h = to_z-of_z (small-fits y h)

square-fits : (y : ℤ) → nat_abs y ≤ 10 → SFits w32 (to_z w32 (of_z w32 y) *ℤ to_z w32 (of_z w32 y))
square-fits y h = rw (back y h, square_is y) (pos-fits (square y) (omega (arith, square_most y h)))

squared : (y : ℤ) → nat_abs y ≤ 10 → to_z w32 (of_z w32 (to_z w32 (of_z w32 y) *ℤ to_z w32 (of_z w32 y))) ≡ pos (square y)
squared y h = to_z-of_z (square-fits y h) ∙ rw (back y h) (square_is y)

small : (w j : ℕ) (p : List ℤ) → p ≡ point_of w → norm (take j p) ≤ 2400
small w j p e = omega (arith, norm_front p j, ap norm e, block-sum w)

sum-fits : (w j : ℕ) (p : List ℤ) (s : ℤ) → p ≡ point_of w → j < 24 → s ≡ pos (norm (take j p))
    → let y = get_or p j (pos 0) in
    SFits w32 (s +ℤ to_z w32 (of_z w32 (to_z w32 (of_z w32 y) *ℤ to_z w32 (of_z w32 y))))
sum-fits w j p s e h q =
    let y = get_or p j (pos 0) in
    let k : nat_abs y ≤ 10 = coordinate w j p e h in
    rw (q, squared y k) (pos-fits (norm (take j p) + square y) (omega (arith, small w j p e, square_most y k)))

pub loop-y-init : goal.loop-y-init
unfolding norm taken
loop-y-init c =
    let y = get_or c.decode-point.result 0 (pos 0) in
    let e : to_z w32 (of_z w32 y) ≡ y = back y (coordinate c.args.word 0 _ c.decode-point.ensures (omega arith)) in
    (refl, e, e)

pub overflow_mul-sum : goal.overflow_mul-sum
overflow_mul-sum c = square-fits (get_or c.decode-point.result c.loop-y.y-index (pos 0)) (coordinate c.args.word c.loop-y.y-index _ c.decode-point.ensures (omega arith))

pub overflow_add-sum : goal.overflow_add-sum
overflow_add-sum c = sum-fits c.args.word c.loop-y.y-index _ _ c.decode-point.ensures (omega arith) c.loop-y.invariant.0

pub loop-y-preserved : goal.loop-y-preserved
loop-y-preserved c =
    let l = c.loop-y in
    let p = c.decode-point.result in
    let y = get_or p l.y-index (pos 0) in
    let k : nat_abs y ≤ 10 = coordinate c.args.word l.y-index p c.decode-point.ensures (omega arith) in
    let n : length p ≡ 24 = search rules in
    let h : l.y-index < length p = omega arith in
    let f : SFits w32 c.max-largest.result = search rules in
    let g : SFits w32 c.min-smallest.result = search rules in (
      to_z-of_z (sum-fits c.args.word l.y-index p _ c.decode-point.ensures (omega arith) l.invariant.0)
          ∙ rw (l.invariant.0, squared y k) (ap pos (sym (norm-next p l.y-index h))),
      to_z-of_z f ∙ (rw (l.invariant.1, back y k) at c.max-largest.ensures.value) ∙ max_is (taken larger (get_or p 0 (pos 0)) (take l.y-index p)) y
          ∙ sym (taken_next larger (get_or p 0 (pos 0)) p l.y-index h),
      to_z-of_z g ∙ c.min-smallest.ensures.value ∙ rw (l.invariant.2, back y k) (sym (taken_next smaller (get_or p 0 (pos 0)) p l.y-index h)),
    )

pub returns : goal.returns
unfolding block_row row_of
returns c =
    let l = c.loop-y in
    let p = c.decode-point.result in
    let n : length p ≡ 24 = search rules in
    let t : take l.y-index p ≡ p = take_all l.y-index p (omega arith) in
    let b : to_z w32 (c.args.word % 2) ≡ pos (c.args.word % 2) = to_z_pos w32 (omega arith) in
    rw (l.invariant.0, l.invariant.1, l.invariant.2, t, b, c.decode-point.ensures)
