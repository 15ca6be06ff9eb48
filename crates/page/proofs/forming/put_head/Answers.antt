-- `put_head` meets its contract: three lines, one behind the other. Assumes nothing.
use native.Mathlib.Omega.{arith}
use mathlib.Core.List.{append_assoc}
use lib.Dec.{lit≤}
use Rattle.text.specs.Text.{bytes}
use Rattle.text.specs.Laws.Placed.{grown-none, grown-text, grown-line, grown_front}
use Rattle.page.specs.Page.{format_line, num_line, count_line}
use Rattle.page.specs.Laws.Form.{head_lines}
use Rattle.page.proofs.forming.put_head.Goals as goal

-- a num has at most five digits, a count two
pub returns : goal.returns
unfolding head_lines format_line num_line count_line
returns c =
    let a = c.args in
    let g0 = grown-none a.out.now 0 37 c.requires in
    let g1 = grown-text g0 format_line (lit≤ tt) c.put-a.ensures.value c.put-a.ensures.out_after in
    let g2 = grown-line g1 (bytes "num=") 4 a.page.now.num (omega (arith, c.args.page.now.good_num.1)) (lit≤ tt) c.put_line-b.ensures.value c.put_line-b.ensures.out_after in
    let g3 = grown-line g2 (bytes "count=") 1 a.page.now.count (omega (arith, c.args.page.now.few)) (lit≤ tt) c.put_line.ensures.value c.put_line.ensures.out_after in
    grown_front g3 (head_lines a.page.now.num a.page.now.count) (append_assoc format_line (num_line a.page.now.num) (count_line a.page.now.count))
