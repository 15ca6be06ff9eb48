-- `resolve::in_a_row` meets its contract: each call gives a byte. Assumes nothing.
use Rattle.std.proofs.Common.{ℕ, ◌/◌, ◌%◌, rules}
use Rattle.laws.specs.Laws.Made.{made}
use Rattle.resolve.specs.Inner.Flat.{byte_in, in_a_row}
use Rattle.resolve.proofs.in_a_row.Goals as goal

pub returns : goal.returns
unfolding in_a_row
returns c =
    made _ _ (λ (i : ℕ). byte_in c.args.bytes.now (i / 2) (i % 2)) c.from_fn.result 128 (λ i y q l e. search rules) 0 c.from_fn.ensures.items
