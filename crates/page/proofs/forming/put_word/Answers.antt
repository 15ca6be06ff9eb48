-- `put_word` meets its contract: three pieces, one behind the other. Assumes nothing.
use mathlib.Core.Path.{ap, ◌∙◌}
use mathlib.Core.List.{append_assoc}
use Prim.Native.Nat.{ℕ, ◌+◌}
use lib.Dec.{lit≤}
use Rattle.text.specs.Text.{bytes}
use Rattle.text.specs.Laws.Placed.{grown-none, grown-text, grown-hex, grown-all}
use Rattle.page.specs.Page.{word_line}
use Rattle.page.specs.Laws.Reader.{word-length}
use Rattle.page.proofs.forming.put_word.Goals as goal

pub returns : goal.returns
unfolding word_line
returns c =
    let a = c.args in
    let g1 = grown-text (grown-none a.out.now a.at 18 c.requires) (bytes "word=") (lit≤ tt) c.put-a.ensures.value c.put-a.ensures.out_after in
    let g2 = grown-hex g1 12 a.word (lit≤ tt) c.put_hex-b.ensures.value c.put_hex-b.ensures.out_after in
    let g3 = grown-text g2 (bytes "\n") (lit≤ tt) c.put.ensures.value c.put.ensures.out_after in
    let w = grown-all g3 (word_line a.word) (simp append_assoc) in
    (w.0 ∙ ap (λ (n : ℕ). a.at + n) (word-length a.word), w.2)
