-- `summary_text` meets its contract: two pieces, then each block is the first of what is left, and none is left at the end. Assumes nothing.
use Rattle.std.proofs.Common.{◌≡◌, sym, ap, ◌∙◌, List, [], ◌++◌, ℕ, suc, ◌+◌, ◌*◌, ◌-◌, ◌<◌, ◌≤◌, length, drop, length-append, append_assoc, append-nil, lit≤, arith}
use Rattle.std.specs.Prelude.{ℤ}
use Rattle.text.specs.Text.{bytes}
use Rattle.text.specs.Laws.Printed.{appended_is, said-none, said-line, said-more}
use Rattle.sized.specs.Sized.{row_text, block_text, block_texts}
use Rattle.sized.proofs.Printing.{texts_next, summary_lines}
use Rattle.sized.proofs.summary_text.Invariants.{left}
use Rattle.sized.proofs.summary_text.Goals as goal

-- one block off what is left
left_next : (rows : List ℤ) (count i : ℕ) → i < count
    → left rows count i ≡ block_text i (drop (4 * (i + 1)) rows) ++ left rows count (i + 1)
left_next rows count i h =
    let n : count - i ≡ suc (count - (i + 1)) = omega arith in
    rw n (texts_next rows i (count - (i + 1)))

none : (rows : List ℤ) (count i : ℕ) → count ≤ i → left rows count i ≡ []
unfolding block_texts
none rows count i h =
    let n : count - i ≡ 0 = omega arith in
    rw n

pub loop-i-init : goal.loop-i-init
loop-i-init c =
    let l1 = said-line (said-none c.new-all.ensures) (bytes "blocks=") 1 c.args.count (omega (arith, c.requires.0)) (lit≤ tt) c.put_line.ensures in
    let l2 = said-more l1 c.as_slice.result.now 73 c.as_slice.ensures.fits (lit≤ tt) c.put.ensures in
    let rows = c.args.rows.now in
    let n = c.args.count in
    let is : c.as_slice.result.now ≡ row_text rows = c.as_slice.ensures.value ∙ c.row_text.ensures in
    let m : n - 0 ≡ n = omega arith in
    record {
      few = omega (arith, ap length l2.is, l2.near);
      same = ap (λ (k : ℕ). c.put.new.self ++ block_texts 0 k (drop 4 rows)) m ∙ summary_lines n rows l2.is is;
    }

pub loop-i-preserved : goal.loop-i-preserved
loop-i-preserved c =
    let l = c.loop-i in
    let rows = c.args.rows.now in
    let n = c.args.count in
    let lines = c.as_slice-in-loop-i.result.now in
    let short : length lines ≤ 82 = c.as_slice-in-loop-i.ensures.fits in
    let e : c.put-in-loop-i.new.self ≡ l.all ++ lines = c.put-in-loop-i.ensures ∙ appended_is 5331 l.all lines (omega (arith, short, l.invariant.few, c.requires.0)) in
    let is : lines ≡ block_text l.i (drop (4 * (l.i + 1)) rows) = c.as_slice-in-loop-i.ensures.value ∙ c.block_text.ensures in
    record {
      few = omega (arith, ap length e, length-append l.all lines, short, l.invariant.few);
      same =
          ap (λ (t : List ℕ). t ++ left rows n (l.i + 1)) e
          ∙ append_assoc l.all lines (left rows n (l.i + 1))
          ∙ ap (λ (t : List ℕ). l.all ++ (t ++ left rows n (l.i + 1))) is
          ∙ ap (λ (t : List ℕ). l.all ++ t) (sym (left_next rows n l.i (omega arith)))
          ∙ l.invariant.same;
    }

pub returns : goal.returns
returns c =
    let l = c.loop-i in
    sym (append-nil l.all) ∙ ap (λ (t : List ℕ). l.all ++ t) (sym (none c.args.rows.now c.args.count l.i (omega arith))) ∙ l.invariant.same
