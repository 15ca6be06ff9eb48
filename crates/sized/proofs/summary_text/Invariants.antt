-- The invariant of `summary_text`: the lines so far, with those of the blocks that are left behind them, are the summary.
use Rattle.std.proofs.Common.{◌≡◌, List, ◌++◌, ℕ, ◌+◌, ◌*◌, ◌-◌, ◌≤◌, length, drop}
use Rattle.std.specs.Prelude.{ℤ}
use Rattle.sized.specs.Sized.{block_texts, summary_text}
use Rattle.sized.proofs.summary_text.Given as goal

-- the lines that are left at block i
abbrev pub left : List ℤ → ℕ → ℕ → List ℕ
left rows count i = block_texts i (count - i) (drop (4 * (i + 1)) rows)

abbrev pub invariant-loop-i : goal.invariant-loop-i
invariant-loop-i l =
    record {
      few : length l.all ≤ 83 + 82 * l.i;
      same : l.all ++ left l.rows l.count l.i ≡ summary_text l.count l.rows;
    }
