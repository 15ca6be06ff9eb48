-- `coord::slot_of` meets its contract. Assumes nothing.
use mathlib.Core.Path.{◌≡◌, ◌∙◌}
use Prim.Native.Nat.{ℕ}
use lib.IntN.{ℤ}
use lib.Ieee.{Float}
use mir.Syntax.{w32}
use mir.ValLaws.{to_z-of_z}
use Rattle.rank.specs.Vector.{sq}
use Rattle.rank.specs.Answers.{mark_of}
use Rattle.search.specs.Record.{member, sq_to}
use Rattle.coord.specs.declared.Slot.{Slot}
use Rattle.coord.specs.Inner.{slot_of}
use Rattle.coord.proofs.slot_of.Goals as goal

made : (t : Float) (o : ℕ) (k : ℤ) {r w : ℕ} {v : ℤ} → r ≡ mark_of (member o k) → w ≡ sq r → v ≡ member o k
    → ◌≡◌ {A = Slot} (record { rank = r; w = w; d = sq_to v t }) (slot_of t o k)
unfolding slot_of
made t o k hr hw hv = rw (hw, hr, hv)

pub returns : goal.returns
returns c =
    let s = c.args in
    let v = to_z-of_z w32 c.value.result (record { sfits = c.value.type_inv }) in
    made s.t s.o _ c.rank_at-rank.ensures.0 c.weight-w.ensures (v ∙ c.value.ensures)
