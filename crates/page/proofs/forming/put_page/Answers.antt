-- `put_page` meets its contract: the lines in front of the words, and the word lines behind them. Assumes nothing.
use borrow.Author.Rules.{rules}
use native.Mathlib.Omega.{arith}
use mathlib.Core.Path.{◌≡◌, ap, ◌∙◌}
use Prim.Native.Nat.{ℕ, ◌+◌, ◌≤◌}
use lib.ListN.{length, take}
use lib.Seq.{length-take-le}
use Rattle.laws.specs.Laws.Lists.{sets-append}
use Rattle.page.specs.Page.{word_lines}
use Rattle.page.specs.Laws.Form.{head_lines, form_lines, form-length}
use Rattle.page.proofs.forming.put_page.Goals as goal

pub returns : goal.returns
returns c =
    let a = c.args in
    let page = a.page.now in
    let p = c.put_head-at.ensures in
    let q = c.put_words.ensures in
    let w = c.words.ensures in
    let size : length page.words ≡ 64 = search rules in
    let few : page.count ≤ length page.words = omega (arith, page.few) in
    let n = form-length page.num page.count page.words few in
    let lines = word_lines (take page.count page.words) in
    let at : 0 + length (head_lines page.num page.count) ≡ c.put_head-at.result = omega (arith, p.0) in
    let l : length c.words.result.now ≡ page.count = ap length w ∙ length-take-le page.count page.words few in
    let e = sets-append ℕ (head_lines page.num page.count) lines a.out.now 0 in (
      omega (arith, p.0, q.0, n),
      omega (arith, p.1, q.0, page.few),
      q.1 ∙ rw (form_lines page.num page.count page.words few, e, at, p.2, w),
    )
