-- `add` meets its contract. Assumes nothing.
use native.Mathlib.Omega.{arith}
use mathlib.Core.Path.{◌≡◌, sym, ap, ◌∙◌}
use mathlib.Core.Bool.{true}
use mathlib.Core.List.{List}
use Prim.Native.Nat.{ℕ, ◌+◌, ◌<◌, ◌≤◌}
use lib.IntN.{ℤ}
use lib.ListN.{length}
use Rattle.std.specs.Prelude.{Ok}
use Rattle.std.proofs.lemmas.Result.{err_from_is_err_and}
use Rattle.page.specs.Answer.{parsed_by}
use Rattle.page.specs.Reader.{reading_of}
use Rattle.page.specs.Laws.Answer.{Accepted, refused-reason, read-page}
use Rattle.summary.specs.Summary.{page_row, cells_for}
use Rattle.summary.specs.Answer.{agree}
use Rattle.summary.specs.Cells.{cells_of}
use Rattle.summary.specs.Laws.Answers.{add_none, add_full, add_short, add-other, add-good}
use Rattle.summary.specs.Laws.Rows.{joined}
use Rattle.summary.specs.Laws.Grown.{stored_by}
use Rattle.summary.proofs.Blocks.{page-fits, block-fits}
use Rattle.summary.proofs.add.Goals as goal
use Rattle.summary.proofs.add.Goals.{In_ok-page}

-- the text is a page
accepted : (c : In_ok-page) → Accepted c.args.text.now (parsed_by (Ok c.in_ok-page.page))
accepted c = read-page c.args.text.now c.in_ok-page.page c.in_ok-page.ensures

pub returns-in_err-page : goal.returns-in_err-page
returns-in_err-page c =
    let q = refused-reason (reading_of c.args.text.now) c.in_err-page.field-0.0 c.in_err-page.ensures in
    let e = err_from_is_err_and c.from_residual.result c.from_residual.ensures.1 in
    let s = add_none c.args.word c.args.rows.now in
    rw (e.1, e.2, q.0) record { value = rw q.1 (sym s.0); rows_after = sym s.1 }

pub returns-then-count-ge64 : goal.returns-then-count-ge64
returns-then-count-ge64 c =
    let a = accepted (goal.at.returns-then-count-ge64 c).In_ok-page in
    let s = add_full c.in_ok-page.page.num a.words c.args.rows.now c.args.word
    (omega (arith, c.if-count-ge64.true, a.count)) in
    rw a.reading record { value = sym s.0; rows_after = sym s.1 }

pub returns-then-rows-count : goal.returns-then-rows-count
returns-then-rows-count c =
    let a = accepted (goal.at.returns-then-rows-count c).In_ok-page in
    let s = add_short c.in_ok-page.page.num a.words c.args.rows.now c.args.word
    (omega (arith, c.if-count-ge64.false, a.count)) (omega (arith, c.if-rows-count.true, a.count)) in
    rw a.reading record { value = sym s.0; rows_after = sym s.1 }

pub returns-then-not-rows_agree : goal.returns-then-not-rows_agree
returns-then-not-rows_agree c =
    let a = accepted (goal.at.returns-then-not-rows_agree c).In_ok-page in
    let old = c.args.rows.now in
    let few : length a.words < 64 = omega (arith, c.if-count-ge64.false, a.count) in
    let room : cells_for (length a.words + 1) ≤ length old = omega (arith, c.if-rows-count.false, a.count) in
    let told : c.rows_agree.result ≡ agree a.words old = c.rows_agree.ensures ∙ ap (λ ws. agree ws old) a.front in
    let s = add-other c.in_ok-page.page.num a.words old c.args.word few room
    (sym told ∙ c.if-not-rows_agree.true) in
    rw a.reading record { value = sym s.0; rows_after = sym s.1 }

pub joined-requires : goal.joined-requires
joined-requires c =
    let a = accepted (goal.at.joined-requires c).In_ok-page in
    let page_is : cells_of c.page_row.result ≡ page_row a.words = c.page_row.ensures ∙ ap page_row a.front in
    let p = rw (← page_is) at (page-fits a.words (omega (arith, a.count, a.count_most))) in
    let b = rw (← c.block_row-block.ensures) at (block-fits c.args.word) in
    (p.0, b.0, p.1, b.1)

pub returns : goal.returns
returns c =
    let a = accepted (goal.at.returns c).In_ok-page in
    let p = c.in_ok-page.page in
    let old = c.args.rows.now in
    let few : length a.words < 64 = omega (arith, c.if-count-ge64.false, a.count) in
    let room : cells_for (length a.words + 1) ≤ length old = omega (arith, c.if-rows-count.false, a.count) in
    let told : c.rows_agree.result ≡ agree a.words old = c.rows_agree.ensures ∙ ap (λ ws. agree ws old) a.front in
    let page_is : cells_of c.page_row.result ≡ page_row a.words = c.page_row.ensures ∙ ap page_row a.front in
    let t : agree a.words old ≡ true = sym told ∙ c.if-not-rows_agree.false in
    let s = add-good p.num a.words old c.args.word few room t in
    let b = c.block_row-block in
    let g = c.joined.ensures ∙ ap (λ (l : List ℤ). joined p.count l (cells_of b.result)) page_is in
    rw a.reading record {
      value = ap (λ (n : ℕ). record { number = 0; count = n + 1 }) a.count ∙ sym s.0;
      rows_after = stored_by a.words c.args.word old _ _ _ (cells_of b.result) p.count a.count b.ensures g
          c.put_row.ensures c.put_row-2.ensures t room
          ∙ sym s.1;
    }
