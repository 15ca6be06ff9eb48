-- One parity over any resolved entries: r1, r2 and r3 give the resolved entry i of each section. Laws proves that with those of crate search it is
-- the definition. Definitions only.
use Rattle.std.specs.Prelude.{cond, List, ℕ, ◌/◌, ◌%◌, get_or, Float}
use Rattle.laws.specs.Words.{tab}
use Rattle.search.specs.declared.Entry.{Entry}
use Rattle.search.specs.declared.Way.{Way}
use Rattle.search.specs.declared.Bounds.{Bounds}
use Rattle.search.specs.Tables.{tables}
use Rattle.search.specs.Entries.{end_start, mid_start}
use Rattle.search.specs.declared.Sides.{Sides}
use Rattle.search.specs.Join.{join, all_exact}
use Rattle.search.specs.Parity.{Winner, fixed, lower, bounds_to, winner_of}
use Rattle.trellis.specs.Trellis.{middle_sets}
use Rattle.coord.specs.Inner.Rows.{table_of, rows_of}
use Rattle.resolve.specs.declared.End.{End}
use Rattle.resolve.specs.declared.Middle.{Middle}
use Rattle.resolve.specs.Inner.Flat.{closed_with}
use Rattle.resolve.specs.Laws.{bytes_of, fallbacks_of}
use Rattle.parity.specs.declared.Head.{Head}

-- ---- the sections of the targets ts at parity p, where the rule runs m shrinks
abbrev pub end_of : ℕ → List Float → ℕ → ℕ → End
end_of kind ts p m = record { rows = rows_of (table_of ts p); bytes = bytes_of kind; fall = fallbacks_of ts kind p; shrinks = m }

abbrev pub middle_of : List Float → ℕ → ℕ → Middle
middle_of ts p m = record { rows = rows_of (table_of ts p); sets = middle_sets; shrinks = m }

-- ---- the entries of a section as they start
unfoldable pub first_start : List Float → ℕ → List Entry
first_start ts p = tab (λ (i : ℕ). end_start tables ts 0 p (i / 64) (i % 64)) 128

unfoldable pub mid_starts : List Float → ℕ → List Entry
mid_starts ts p = tab (λ (i : ℕ). mid_start tables ts p (get_or tables.sets (i / 2) 0) (i % 2)) 256

unfoldable pub last_start : List Float → ℕ → List Entry
last_start ts p = tab (λ (i : ℕ). end_start tables ts 1 p (i / 64) (i % 64)) 128

-- ---- the best path, and whether it is all exact
abbrev pub head_by : Sides → Way → Head
head_by s w = record { cost = w.cost; i1 = w.i1; i2 = w.i2; i3 = w.i3; done = all_exact s w }

unfoldable pub head_of : ℕ → Sides → Head
head_of p s = head_by s (join tables p s)

-- ---- the seed joins: entries, and the best cost known
pub record Kept : Type 0 where
  pub sides : Sides
  pub u : Float

abbrev pub Resolved : Type 0
Resolved = ℕ → Entry

-- the entries of a path resolved where they are not exact
abbrev pub once_sides : Resolved → Resolved → Resolved → Sides → Head → Sides
once_sides r1 r2 r3 s h =
    record { e1 = fixed s.e1 h.i1 (r1 h.i1); e2 = fixed s.e2 h.i2 (r2 h.i2); e3 = fixed s.e3 h.i3 (r3 h.i3) }

abbrev pub once_by : Resolved → Resolved → Resolved → Kept → Head → Kept
once_by r1 r2 r3 k h = record { sides = once_sides r1 r2 r3 k.sides h; u = cond h.done (lower k.u h.cost) k.u }

-- a path that is all exact is the last one
abbrev pub again_by : Resolved → Resolved → Resolved → ℕ → Head → Kept → Kept
again_by r1 r2 r3 p h k = once_by r1 r2 r3 k (cond h.done h (head_of p k.sides))

abbrev pub seeds_by : Resolved → Resolved → Resolved → ℕ → Kept → Kept
seeds_by r1 r2 r3 p k = again_by r1 r2 r3 p (head_of p k.sides) (once_by r1 r2 r3 k (head_of p k.sides))

-- ---- the bounds, and what they leave
unfoldable pub closed_by : Resolved → Resolved → Resolved → Sides → Bounds → Sides
closed_by r1 r2 r3 s b =
    record {
      e1 = tab (closed_with s.e1 b.b1 b.u r1) 128;
      e2 = tab (closed_with s.e2 b.b2 b.u r2) 256;
      e3 = tab (closed_with s.e3 b.b3 b.u r3) 128;
    }

abbrev pub left_by : Resolved → Resolved → Resolved → ℕ → Kept → Sides
left_by r1 r2 r3 p k = closed_by r1 r2 r3 k.sides (bounds_to tables p k.sides k.u 4096)

abbrev pub best_of : ℕ → Sides → Winner
best_of p s = winner_of p s (join tables p s)

unfoldable pub pass_of : Resolved → Resolved → Resolved → ℕ → Kept → Winner
pass_of r1 r2 r3 p k = best_of p (left_by r1 r2 r3 p (seeds_by r1 r2 r3 p k))
