-- `even::read_page` meets its contract: a page with an odd word is refused, and every other text is read as by the full coder. Assumes nothing.
use mathlib.Core.Path.{◌≡◌, refl, ap, sym, ◌∙◌}
use mathlib.Core.Bool.{Bool, true, false}
use mathlib.Core.List.{List}
use Prim.Native.Nat.{ℕ}
use lib.ListN.{take}
use Rattle.std.specs.Prelude.{Ok}
use Rattle.std.proofs.lemmas.Result.{err_from_is_err_and}
use Rattle.page.specs.Answer.{Parsed, parsed_by, number_in, words_in, parsed_of, read_of, cells_of}
use Rattle.page.specs.Reader.{reading_of}
use Rattle.page.specs.Laws.Answer.{parsed_words, refused-reason}
use Rattle.even.specs.Even.{any_odd, even_read, even_cells}
use Rattle.even.proofs.read_page.Goals as goal

-- what is said of the words of the answer is said of the page's
asked : (text : List ℕ) (p : Parsed) (b c : Bool) → p ≡ parsed_of (reading_of text) → b ≡ any_odd (take p.count p.words) → b ≡ c
    → any_odd (words_in (reading_of text)) ≡ c
asked text p b c e q t = ap any_odd (sym (parsed_words (reading_of text) p e).1) ∙ sym q ∙ t

pub returns-in_err-page : goal.returns-in_err-page
unfolding even_read even_cells any_odd words_in number_in read_of cells_of
returns-in_err-page c =
    let p = err_from_is_err_and c.from_residual.result c.from_residual.ensures.1 in
    let q = refused-reason (reading_of c.args.text.now) c.in_err-page.field-0.0 c.in_err-page.ensures in
    rw (p.1, p.2, q.0, q.1) record { value = refl; out_after = refl }

pub returns-then-any_odd : goal.returns-then-any_odd
unfolding even_read even_cells
returns-then-any_odd c =
    rw (asked c.args.text.now (parsed_by (Ok c.in_ok-page.page)) _ true c.in_ok-page.ensures c.any_odd.ensures c.if-any_odd.true) record { value = refl; out_after = refl }

pub returns : goal.returns
unfolding even_read even_cells
returns c =
    rw (asked c.args.text.now (parsed_by (Ok c.in_ok-page.page)) _ false c.in_ok-page.ensures c.any_odd.ensures c.if-any_odd.false) c.read.ensures
