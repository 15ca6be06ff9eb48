-- `row::page_row` meets its contract. Assumes nothing.
use native.Mathlib.Omega.{arith}
use mathlib.Core.Path.{◌≡◌, refl, ap, ◌∙◌}
use Prim.Native.Nat.{◌≤◌}
use lib.ListN.{length, get_or, take, length-take}
use lib.Seq.{length-take-le, take_all}
use Rattle.laws.specs.Words.{norm}
use Rattle.summary.specs.Summary.{page_row, row_of, points, odds, taken}
use Rattle.std.proofs.Common.{ap₂, List, ℤ}
use Rattle.summary.specs.Laws.Rows.{joined}
use Rattle.summary.proofs.Blocks.{row_next, page-fits, block-fits}
use Rattle.summary.proofs.row.page_row.Goals as goal
use Rattle.summary.proofs.row.page_row.Goals.{In-loop-i}

-- a page has at most 64 words
few : (c : In-loop-i) → length c.words-word-items.result.now ≤ 64
few c =
    let page = c.args.page.now in
    omega (arith, ap length c.words-word-items.ensures, length-take page.count page.words, page.few)

pub loop-i-init : goal.loop-i-init
unfolding page_row row_of points odds taken norm
loop-i-init c = refl

pub joined-row-requires : goal.joined-row-requires
joined-row-requires c =
    let l = c.loop-i in
    let w = c.words-word-items.result.now in
    let m : length (take l.i w) ≡ l.i = length-take-le l.i w (omega arith) in
    let p = rw (← l.invariant) at (page-fits (take l.i w) (omega (arith, few (goal.at.joined-row-requires c).In-loop-i))) in
    let b = rw (← c.block_row.ensures) at (block-fits (get_or w l.i 0)) in
    (p.0, b.0, p.1, b.1)

pub loop-i-preserved : goal.loop-i-preserved
loop-i-preserved c =
    let l = c.loop-i in
    c.joined-row.ensures ∙ ap₂ {C = List ℤ} (λ (p b : List ℤ). joined l.i p b) l.invariant c.block_row.ensures
    ∙ row_next c.words-word-items.result.now l.i (omega arith)

pub returns : goal.returns
returns c =
    let l = c.loop-i in
    let w = c.words-word-items in
    l.invariant ∙ ap page_row (take_all l.i w.result.now (omega arith) ∙ w.ensures)
