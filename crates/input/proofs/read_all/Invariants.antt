-- The loop of `read_all` ends, since less room is left after each read, and what is filled is what was read.
use Rattle.std.proofs.Common.{◌-◌, ◌≤◌, length, take}
use Rattle.std.specs.Io.KnownBytes.{Consumes}
use Rattle.input.proofs.read_all.Given as goal

abbrev pub invariant-loop-count : goal.invariant-loop-count
invariant-loop-count g l =
    record {
      within : l.count ≤ length l.text;
      filled : Consumes (g.R.Read.remaining l.fn.from) (g.R.Read.remaining l.from) (take l.count l.text);
    }

abbrev pub decreases-loop-count : goal.decreases-loop-count
decreases-loop-count g l = length l.initial.text - l.count
