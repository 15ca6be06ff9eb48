-- `read` meets its contract. Assumes nothing.
use borrow.Author.Tests.{lt-ltb}
use native.Mathlib.Omega.{arith}
use mathlib.Core.Path.{refl, ap, ◌∙◌}
use Prim.Native.Nat.{ℕ, ◌*◌, ◌<◌}
use lib.ListN.{length}
use Rattle.std.specs.Prelude.{Ok}
use Rattle.std.proofs.lemmas.Result.{err_from_is_err_and}
use Rattle.page.specs.Answer.{parsed_by, number_in, words_in, counts_in, read_of, cells_of}
use Rattle.page.specs.Reader.{reading_of}
use Rattle.page.specs.Laws.Answer.{Accepted, refused-reason, read-page}
use Rattle.page.proofs.Answering.{answered, stored}
use Rattle.page.proofs.read.Goals as goal
use Rattle.page.proofs.read.Goals.{In_ok-page}

-- the text is a page
accepted : (c : In_ok-page) → Accepted c.args.text.now (parsed_by (Ok c.in_ok-page.page))
accepted c = read-page c.args.text.now c.in_ok-page.page c.in_ok-page.ensures

pub returns-in_err-page : goal.returns-in_err-page
unfolding read_of cells_of number_in words_in counts_in
returns-in_err-page c =
    let p = err_from_is_err_and c.from_residual.result c.from_residual.ensures.1 in
    let q = refused-reason (reading_of c.args.text.now) c.in_err-page.field-0.0 c.in_err-page.ensures in
    rw (p.1, p.2, q.0) record { value = ap (λ (n : ℕ). record { number = n; count = 0 }) q.1; out_after = refl }

pub returns-then-out-count : goal.returns-then-out-count
unfolding read_of cells_of number_in words_in counts_in
returns-then-out-count c =
    let p = accepted (goal.at.returns-then-out-count c).In_ok-page in
    let h : length c.args.out.now < 24 * length p.words = omega (arith, c.if-out-count.true, p.count) in
    rw (p.reading, lt-ltb _ _ h) record { value = refl; out_after = refl }

pub returns : goal.returns
returns c =
    let p = accepted (goal.at.returns c).In_ok-page in
    let r = c.in_ok-page.page in
    let q = c.put_blocks.ensures in record { value = answered _ r.num p.words r.count _ p.reading p.count c.if-out-count.false; out_after = q ∙ rw p.front (stored _ r.num p.words r.count _ p.reading p.count c.if-out-count.false) }
