-- The invariant of `block_texts`: the lines so far, with those of the blocks that are left behind them, are the lines of all blocks.
use Rattle.std.proofs.Common.{◌≡◌, List, ◌++◌, ℕ, ◌*◌, ◌-◌, ◌≤◌, length, drop}
use Rattle.std.specs.Prelude.{ℤ}
use Rattle.shown.specs.Shown.{block_texts}
use Rattle.shown.proofs.block_texts.Given as goal

-- the lines that are left at block i
abbrev pub left : List ℤ → ℕ → ℕ → List ℕ
left counts count i = block_texts i (count - i) (drop (24 * i) counts)

abbrev pub invariant-loop-i : goal.invariant-loop-i
invariant-loop-i l =
    record {
      few : length l.all ≤ 323 * l.i;
      same : l.all ++ left l.counts l.count l.i ≡ block_texts 0 l.count l.counts;
    }
