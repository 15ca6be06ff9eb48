-- `fallback_entries::squares` meets its contract: each call gives a square. Assumes nothing.
use Rattle.std.proofs.Common.{rules}
use Rattle.std.specs.Float.{nan}
use Rattle.laws.specs.Laws.Made.{made}
use Rattle.fallback_entries.specs.Inner.Flat.{square_at, squares_of}
use Rattle.fallback_entries.proofs.squares.Goals as goal

pub returns : goal.returns
unfolding squares_of
returns c = made _ _ (square_at c.args.m.now c.args.t) c.from_fn.result 64 (λ i y q l e. search rules) nan c.from_fn.ensures.items
