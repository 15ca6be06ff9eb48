-- How many bytes were read of an input, whether it was read to its end or cut by a read that failed. Assumes nothing.
use Rattle.std.specs.Prelude.{ℕ}
use Rattle.std.proofs.Common.{Result, Ok, Err}
use Rattle.input.specs.declared.Cut.{Cut}

abbrev pub count_of : Result ℕ Cut → ℕ
count_of (Ok n) = n
count_of (Err cut) = cut.count
