-- `check` meets its contract. Assumes nothing.
use native.Mathlib.Omega.{arith}
use mathlib.Core.Path.{◌≡◌, sym, ap, ◌∙◌}
use Prim.Native.Nat.{◌<◌, ◌≤◌}
use lib.ListN.{length}
use Rattle.std.specs.Prelude.{Ok}
use Rattle.std.proofs.lemmas.Result.{err_from_is_err_and}
use Rattle.page.specs.Answer.{parsed_by}
use Rattle.page.specs.Reader.{reading_of}
use Rattle.page.specs.Laws.Answer.{Accepted, refused-reason, read-page}
use Rattle.summary.specs.Summary.{cells_for}
use Rattle.summary.specs.Answer.{agree}
use Rattle.summary.specs.Laws.Answers.{check-none, check_short, check-other, check-good}
use Rattle.summary.proofs.check.Goals as goal
use Rattle.summary.proofs.check.Goals.{In_ok-page}

-- the text is a page
accepted : (c : In_ok-page) → Accepted c.args.text.now (parsed_by (Ok c.in_ok-page.page))
accepted c = read-page c.args.text.now c.in_ok-page.page c.in_ok-page.ensures

pub returns-in_err-page : goal.returns-in_err-page
returns-in_err-page c =
    let q = refused-reason (reading_of c.args.text.now) c.in_err-page.field-0.0 c.in_err-page.ensures in
    let e = err_from_is_err_and c.from_residual.result c.from_residual.ensures.1 in
    rw (e.1, e.2, q.0, q.1) (sym (check-none c.args.rows.now))

pub returns-then-rows-count : goal.returns-then-rows-count
returns-then-rows-count c =
    let a = accepted (goal.at.returns-then-rows-count c).In_ok-page in
    let rows = c.args.rows.now in
    let h : length rows < cells_for (length a.words) = omega (arith, c.if-rows-count.true, a.count) in
    rw a.reading (sym (check_short c.in_ok-page.page.num a.words rows h))

pub returns-else-rows_agree : goal.returns-else-rows_agree
returns-else-rows_agree c =
    let a = accepted (goal.at.returns-else-rows_agree c).In_ok-page in
    let rows = c.args.rows.now in
    let h : cells_for (length a.words) ≤ length rows = omega (arith, c.if-rows-count.false, a.count) in
    let t : c.rows_agree.result ≡ agree a.words rows = c.rows_agree.ensures ∙ ap (λ ws. agree ws rows) a.front in
    rw a.reading
    (sym (check-other c.in_ok-page.page.num a.words rows h (sym t ∙ c.if-rows_agree.false)))

pub returns-then-rows_agree : goal.returns-then-rows_agree
returns-then-rows_agree c =
    let a = accepted (goal.at.returns-then-rows_agree c).In_ok-page in
    let rows = c.args.rows.now in
    let h : cells_for (length a.words) ≤ length rows = omega (arith, c.if-rows-count.false, a.count) in
    let t : c.rows_agree.result ≡ agree a.words rows = c.rows_agree.ensures ∙ ap (λ ws. agree ws rows) a.front in
    rw a.reading
    (sym (check-good c.in_ok-page.page.num a.words rows h (sym t ∙ c.if-rows_agree.true)))
