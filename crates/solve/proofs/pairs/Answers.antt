-- `solve::pairs` meets its contract: each call gives a pair. Assumes nothing.
use Rattle.std.proofs.Common.{ℕ, get_or, rules}
use Rattle.laws.specs.Laws.Made.{made}
use Rattle.search.specs.Solve.{unmet}
use Rattle.solve.specs.declared.Pair.{Pair}
use Rattle.solve.specs.Inner.Flat.{pair_in}
use Rattle.solve.proofs.pairs.Goals as goal

-- what stands past the end
past : Pair
past = record { even = unmet; odd = unmet }

pub returns : goal.returns
returns c =
    let s = c.args in
    made _ _ (λ (i : ℕ). pair_in s.rows.now (get_or s.bytes.now i 0) s.b0 s.b1) c.from_fn.result 128 (λ i y q l e. search rules)
    past c.from_fn.ensures.items
