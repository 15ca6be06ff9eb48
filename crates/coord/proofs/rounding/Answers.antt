-- `coord::rounding` meets its contract: a double rounds to at most a million in size. Assumes nothing.
use mathlib.Core.Path.{◌∙◌, sym, subst}
use Prim.Native.Nat.{◌≤◌}
use lib.Dec.{T}
use lib.IntN.{ℤ, nat_abs}
use mir.Syntax.{w32}
use mir.ValLaws.{to_z-of_z}
use Rattle.float.specs.Laws.Rounding.{rounded-le}
use Rattle.coord.proofs.rounding.Goals as goal

pub returns : goal.returns
returns c =
    let e = to_z-of_z w32 c.round.result (record { sfits = c.round.type_inv }) ∙ c.round.ensures in
    (e, subst (λ (k : ℤ). nat_abs k ≤ 1000000) (sym e) (rounded-le c.args.z (subst T (sym c.well_formed.0.1) tt)))
