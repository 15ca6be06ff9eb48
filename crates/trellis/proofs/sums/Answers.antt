-- Each sum is made by its index.
use Rattle.std.proofs.Common.{rules}
use Rattle.laws.specs.Laws.Made.{made}
use Rattle.trellis.specs.Laws.Rows.{sums_of}
use Rattle.trellis.proofs.sums.Goals as goal

pub returns : goal.returns
unfolding sums_of
returns c = made _ _ _ _ 128 (λ i y q h k. search rules) 0 c.from_fn.ensures.items
