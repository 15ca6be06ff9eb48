-- `rows_agree` meets its contract. Assumes nothing.
use native.Mathlib.Omega.{arith}
use mathlib.Core.Path.{◌≡◌, sym, ap, ◌∙◌}
use mathlib.Core.Bool.{true, false}
use Prim.Native.Nat.{◌+◌, ◌*◌}
use lib.ListN.{get_or, take, drop}
use Rattle.summary.specs.Summary.{block_row, page_row}
use Rattle.summary.specs.Answer.{begin, agree}
use Rattle.summary.specs.Laws.Cells.{begin-none}
use Rattle.summary.proofs.Filling.{agree-start, agree-split, left_end}
use Rattle.summary.proofs.rows_agree.Goals as goal
use Rattle.summary.proofs.rows_agree.Goals.{After-row_is, After-row_is-in-loop-i}

-- what the comparison of the page's row says
page-told : (c : After-row_is) → let a = c.args in
    c.row_is.result ≡ begin a.rows.now (page_row (take a.page.now.count a.page.now.words))
page-told c = c.row_is.ensures ∙ ap (begin c.args.rows.now) c.page_row.ensures

-- and that of a block's
block-told : (c : After-row_is-in-loop-i) → let a = c.args in
    let l = c.loop-i in
    c.row_is-in-loop-i.result ≡ begin (drop (4 * (l.i + 1)) a.rows.now) (block_row (get_or c.words-word-items.result.now l.i 0))
block-told c = c.row_is-in-loop-i.ensures ∙ ap (begin (drop (4 * (c.loop-i.i + 1)) c.args.rows.now)) c.block_row.ensures

pub returns-then-not-row_is : goal.returns-then-not-row_is
returns-then-not-row_is c =
    let a = c.args in
    let ws = take a.page.now.count a.page.now.words in
    let e : begin a.rows.now (page_row ws) ≡ false = sym (page-told (goal.at.returns-then-not-row_is c).After-row_is) ∙ c.if-not-row_is.true in
    sym (agree-start ws a.rows.now ∙ rw e)

pub loop-i-init : goal.loop-i-init
loop-i-init c =
    let a = c.args in
    let w = c.words-word-items in
    let t = rw (← w.ensures) at (page-told (goal.at.loop-i-init c).After-row_is) in
    let e : begin a.rows.now (page_row w.result.now) ≡ true = sym t ∙ c.if-not-row_is.false in
    sym (agree-start w.result.now a.rows.now ∙ rw e)

pub returns-then-not-row_is-2 : goal.returns-then-not-row_is-2
returns-then-not-row_is-2 c =
    let l = c.loop-i in
    let a = c.args in
    let w = c.words-word-items in
    let q = agree-split w.result.now l.i (omega arith) a.rows.now in
    sym (q ∙ rw (sym (block-told (goal.at.returns-then-not-row_is-2 c).After-row_is-in-loop-i) ∙ c.if-not-row_is-2.true)) ∙ l.invariant
    ∙ ap (λ ws. agree ws a.rows.now) w.ensures

pub loop-i-preserved : goal.loop-i-preserved
loop-i-preserved c =
    let l = c.loop-i in
    let q = agree-split c.words-word-items.result.now l.i (omega arith) c.args.rows.now in
    sym (q ∙ rw (sym (block-told (goal.at.loop-i-preserved c).After-row_is-in-loop-i) ∙ c.if-not-row_is-2.false)) ∙ l.invariant

pub returns : goal.returns
returns c =
    let l = c.loop-i in
    let a = c.args in
    let w = c.words-word-items in
    let e = left_end w.result.now l.i (omega arith) in
    rw (e, begin-none (drop (4 * (l.i + 1)) a.rows.now)) at l.invariant ∙ ap (λ ws. agree ws a.rows.now) w.ensures
