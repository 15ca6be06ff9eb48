-- `summarise` meets its contract. Assumes nothing.
use native.Mathlib.Omega.{arith}
use mathlib.Core.Path.{sym, ap, ◌∙◌}
use Prim.Native.Nat.{◌<◌, ◌≤◌}
use lib.ListN.{length}
use Rattle.std.specs.Prelude.{Ok}
use Rattle.std.proofs.lemmas.Result.{err_from_is_err_and}
use Rattle.page.specs.Answer.{parsed_by}
use Rattle.page.specs.Reader.{reading_of}
use Rattle.page.specs.Laws.Answer.{Accepted, refused-reason, read-page}
use Rattle.summary.specs.Summary.{cells_for}
use Rattle.summary.specs.Laws.Answers.{sum-none, sum_short, sum-good}
use Rattle.summary.specs.Laws.Grown.{all_stored}
use Rattle.summary.proofs.summarise.Goals as goal
use Rattle.summary.proofs.summarise.Goals.{In_ok-page}

-- the text is a page
accepted : (c : In_ok-page) → Accepted c.args.text.now (parsed_by (Ok c.in_ok-page.page))
accepted c = read-page c.args.text.now c.in_ok-page.page c.in_ok-page.ensures

pub returns-in_err-page : goal.returns-in_err-page
returns-in_err-page c =
    let old = c.args.rows.now in
    let q = refused-reason (reading_of c.args.text.now) c.in_err-page.field-0.0 c.in_err-page.ensures in
    let e = err_from_is_err_and c.from_residual.result c.from_residual.ensures.1 in
    let s = sum-none old in
    rw (e.1, e.2, q.0) record { value = rw q.1 (sym s.0); rows_after = sym s.1 }

pub returns-then-rows-count : goal.returns-then-rows-count
returns-then-rows-count c =
    let a = accepted (goal.at.returns-then-rows-count c).In_ok-page in
    let old = c.args.rows.now in
    let h : length old < cells_for (length a.words) = omega (arith, c.if-rows-count.true, a.count) in
    let s = sum_short c.in_ok-page.page.num a.words old h in
    rw a.reading record { value = sym s.0; rows_after = sym s.1 }

pub returns : goal.returns
returns c =
    let a = accepted (goal.at.returns c).In_ok-page in
    let p = c.in_ok-page.page in
    let old = c.args.rows.now in
    let h : cells_for (length a.words) ≤ length old = omega (arith, c.if-rows-count.false, a.count) in
    let g = sum-good p.num a.words old h in
    rw a.reading record { value = ap (λ n. record { number = 0; count = n }) a.count ∙ sym g.0; rows_after = c.put_summary.ensures ∙ rw a.front (all_stored a.words old h) ∙ sym g.1 }
