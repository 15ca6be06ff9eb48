-- `block_texts` meets its contract: each block is the first of what is left, and none is left at the end. Assumes nothing.
use Rattle.std.proofs.Common.{◌≡◌, sym, ap, ◌∙◌, List, [], ◌++◌, ℕ, suc, ◌+◌, ◌*◌, ◌-◌, ◌<◌, ◌≤◌, length, take, drop, length-append, append_assoc, append-nil, arith}
use Rattle.std.specs.Prelude.{ℤ}
use Rattle.text.specs.Laws.Printed.{appended_is}
use Rattle.shown.specs.Shown.{block_text, block_texts}
use Rattle.shown.proofs.Printing.{texts_next}
use Rattle.shown.proofs.block_texts.Invariants.{left}
use Rattle.shown.proofs.block_texts.Goals as goal

-- one block off what is left
left_next : (counts : List ℤ) (count i : ℕ) → i < count
    → left counts count i ≡ block_text i (take 24 (drop (24 * i) counts)) ++ left counts count (i + 1)
left_next counts count i h =
    let n : count - i ≡ suc (count - (i + 1)) = omega arith in
    rw n (texts_next counts i (count - (i + 1)))

none : (counts : List ℤ) (count i : ℕ) → count ≤ i → left counts count i ≡ []
unfolding block_texts
none counts count i h =
    let n : count - i ≡ 0 = omega arith in
    rw n

pub loop-i-preserved : goal.loop-i-preserved
loop-i-preserved c =
    let l = c.loop-i in
    let cs = c.args.counts.now in
    let n = c.args.count in
    let lines = c.as_slice.result.now in
    let short : length lines ≤ 323 = c.as_slice.ensures.fits in
    let e : c.put.new.self ≡ l.all ++ lines = c.put.ensures ∙ appended_is 20672 l.all lines (omega (arith, short, l.invariant.few, c.requires.1)) in
    let is : lines ≡ block_text l.i (take 24 (drop (24 * l.i) cs)) =
    c.as_slice.ensures.value ∙ c.block_text-lines.ensures ∙ ap (block_text l.i) c.counts_at.ensures in
    record {
      few = omega (arith, ap length e, length-append l.all lines, short, l.invariant.few);
      same =
          ap (λ (t : List ℕ). t ++ left cs n (l.i + 1)) e
          ∙ append_assoc l.all lines (left cs n (l.i + 1))
          ∙ ap (λ (t : List ℕ). l.all ++ (t ++ left cs n (l.i + 1))) is
          ∙ ap (λ (t : List ℕ). l.all ++ t) (sym (left_next cs n l.i (omega arith)))
          ∙ l.invariant.same;
    }

pub returns : goal.returns
returns c =
    let l = c.loop-i in
    sym (append-nil l.all) ∙ ap (λ (t : List ℕ). l.all ++ t) (sym (none c.args.counts.now c.args.count l.i (omega arith))) ∙ l.invariant.same
