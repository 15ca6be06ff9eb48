-- `yultarvas::yultarvas_parse_page` meets its contract. Assumes nothing.
use native.Mathlib.Omega.{arith}
use mathlib.Core.Path.{◌≡◌, refl, ap, sym, ◌∙◌}
use mathlib.Core.List.{List, ◌++◌}
use Prim.Native.Nat.{ℕ}
use borrow.Author.Tests.{lt-ltb, le-ltb}
use lib.ListN.{length, drop, length-take}
use Rattle.std.specs.Prelude.{Ok, Err}
use Rattle.refusal.specs.Laws.{never_0}
use Rattle.page.specs.Reader.{reading_of}
use Rattle.page.specs.Answer.{parsed_by, num_in, words_in}
use Rattle.yultarvas.specs.Calls.{words_over}
use Rattle.yultarvas.specs.Laws.Room.{left_old}
use Rattle.yultarvas.proofs.Pages.{no_page_lem, Holds, some-page}
use Rattle.yultarvas.proofs.yultarvas_parse_page.Goals as goal
use Rattle.yultarvas.proofs.yultarvas_parse_page.Goals.{In-Ok}

-- the text is a page
held : (c : In-Ok) → Holds (reading_of c.args.text.now) (parsed_by (Ok c.in-Ok.page))
held c = some-page c.args.text.now (parsed_by (Ok c.in-Ok.page)) c.in-Ok.ensures refl

pub returns-in-Err : goal.returns-in-Err
returns-in-Err c =
    let a = c.args in
    let R = reading_of a.text.now in
    let r = c.in-Err.refusal in
    let k = c.number.result in
    let h = λ (z : k ≡ 0). never_0 r (sym c.number.ensures ∙ z) in record {
      value = c.number.ensures ∙ no_page_lem R (parsed_by (Err r)) a.words.now c.in-Err.ensures (never_0 r);
      num_after = left_old ℕ k (num_in R) a.num.now h;
      words_after = left_old (List ℕ) k (words_over R a.words.now) a.words.now h;
      count_after = left_old ℕ k (length (words_in R)) a.count.now h;
    }

pub returns-then-words-n : goal.returns-then-words-n
returns-then-words-n c =
    let a = c.args in
    record {
      value = rw (lt-ltb _ _ c.if-words-n.true) at ((held (goal.at.returns-then-words-n c).In-Ok).number a.words.now);
      num_after = refl;
      words_after = refl;
      count_after = refl;
    }

pub put_words-requires : goal.put_words-requires
put_words-requires c =
    let page = c.in-Ok.page in
    omega (arith, ap length c.words.ensures, length-take page.count page.words, c.if-words-n.false)

pub returns : goal.returns
returns c =
    let a = c.args in
    let q = held (goal.at.returns c).In-Ok in record {
      value = rw (le-ltb _ _ c.if-words-n.false) at (q.number a.words.now);
      num_after = q.num;
      words_after = c.put_words.ensures ∙ ap (λ (l : List ℕ). l ++ drop (length l) a.words.now) (c.words.ensures ∙ q.front);
      count_after = q.count;
    }
