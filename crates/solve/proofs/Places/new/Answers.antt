-- `solve::Places::new` meets its contract: each call gives a place. Assumes nothing.
use Rattle.std.proofs.Common.{rules}
use Rattle.laws.specs.Laws.Made.{made}
use Rattle.solve.specs.Inner.Flat.{place_of, places_of}
use Rattle.solve.proofs.Places.new.Goals as goal

pub returns : goal.returns
unfolding places_of
returns c = made _ _ (place_of c.args.pattern c.args.shrink) c.from_fn.result 8 (λ i y q l e. search rules) 0 c.from_fn.ensures.items
