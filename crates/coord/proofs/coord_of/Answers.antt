-- `coord::coord_of` meets its contract. Assumes nothing.
use mathlib.Core.Path.{◌≡◌, ◌∙◌}
use Prim.Native.Nat.{ℕ, ◌%◌}
use lib.IntN.{ℤ}
use lib.Ieee.{Float, of_bits}
use mir.Syntax.{w32}
use mir.ValLaws.{to_z-of_z}
use Rattle.float.specs.Calls.{clamped, rounded}
use Rattle.search.specs.Record.{on_lattice, coord_from, coord_of}
use Rattle.coord.proofs.coord_of.Goals as goal

made : (t shrink : Float) (o : ℕ) {z : Float} {k : ℤ} → z ≡ clamped (on_lattice t shrink o) → k ≡ rounded (on_lattice t shrink o)
    → coord_from t o z k ≡ coord_of t shrink o
unfolding coord_of
made t shrink o hz hk = rw (hz, hk)

pub returns : goal.returns
unfolding of_bits
returns c =
    let s = c.args in
    let k = to_z-of_z w32 c.rounding-k.result (record { sfits = c.rounding-k.type_inv }) in
    c.record_of.ensures ∙ made s.t s.shrink (s.o % 4) c.clamp.ensures (k ∙ c.rounding-k.ensures.0)
