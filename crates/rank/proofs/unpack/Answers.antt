-- `rank::unpack`: each rank by its place. Assumes nothing.
use Rattle.std.proofs.Common.{rules, ◌∙◌, sym, ℕ, ◌*◌, ◌/◌, ◌%◌, ◌^◌}
use Rattle.laws.specs.Laws.Lists.{filled}
use Rattle.laws.specs.Laws.Made.{made}
use Rattle.rank.specs.Vector as vector
use Rattle.rank.specs.Laws.Vector.{unpack-at, unpack-length}
use Rattle.rank.proofs.unpack.Goals as goal

pub returns : goal.returns
returns c =
    let row = c.args.row in
    let h : ℕ → ℕ = λ i. row / 2 ^ (4 * i) % 16 in
    made _ _ h c.from_fn.result 8 (λ i y q l e. search rules) 0 c.from_fn.ensures.items
    ∙ sym (filled ℕ 0 8 h (vector.unpack 8 row) (unpack-length 8 row) (λ k l. unpack-at 8 row k l))
