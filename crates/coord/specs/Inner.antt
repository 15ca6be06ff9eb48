-- The forms in which this crate's private functions make a record: one slot of it by itself, and whole numbers counted from -1048576 on, so that
-- they have no sign. Definitions only.
pub mod Rows
use Rattle.std.specs.Prelude.{ℕ, ℤ, Float}
use Rattle.std.proofs.Math.IntN.{sub_ℕ}
use Rattle.rank.specs.Vector.{sq}
use Rattle.rank.specs.Answers.{mark_of}
use Rattle.search.specs.Record.{member, sq_to}
use Rattle.coord.specs.declared.Slot.{Slot}

-- the member o + 4k with its rank mark, its weight and its squared distance to the target t
unfoldable pub slot_of : Float → ℕ → ℤ → Slot
slot_of t o k = record { rank = mark_of (member o k); w = sq (mark_of (member o k)); d = sq_to (member o k) t }

-- the whole number that is counted as kk
abbrev pub unbiased : ℕ → ℤ
unbiased kk = sub_ℕ kk 1048576
