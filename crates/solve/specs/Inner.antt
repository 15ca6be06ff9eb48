-- What the inner functions ask of each other so that no index leaves a row and no sum wraps. No public contract cites this file.
pub mod Flat
use Rattle.std.specs.Prelude.{◌≡◌, List, ℕ, ◌<◌, ◌≤◌, ◌+◌, get_or}
use Rattle.search.specs.declared.Top.{Top}
use Rattle.coord.specs.declared.Rows.{Rows}
use Rattle.search.specs.Base.{slot_of}
use Rattle.search.specs.Solve.{other_of}
use Rattle.solve.specs.declared.Start.{Start}
use Rattle.solve.specs.Inner.Flat.{spot}

-- each of the eight places is one of the 128
abbrev pub Placed : List ℕ → Type 0
Placed at = (j : ℕ) → j < 8 → get_or at j 0 < 128

-- two different coordinates below n
abbrev pub Apart : Top → ℕ → Type 0
Apart t n = (t.j0 < n) × ((t.j1 < n) × (t.j0 ≡ t.j1 → ⊥))

-- a slot that has a neighbour on both sides
abbrev pub Flanked : ℕ → Type 0
Flanked f = (1 ≤ f) × (f ≤ 3)

-- the cost holds the weights of each pair that a step takes out
abbrev pub Covered : Rows → List ℕ → Top → ℕ → ℕ → Type 0
Covered rows at t fix cost =
    (j : ℕ) → j < 8
    → get_or rows.weight (spot at j (slot_of t.j0 fix j)) 0
    + get_or rows.weight (spot at (other_of j t.j0 t.j1) (slot_of t.j0 fix (other_of j t.j0 t.j1))) 0
    ≤ cost

-- what the steps ask of a start
abbrev pub Ready : Start → Rows → List ℕ → Type 0
Ready s rows at =
    ((s.top.j0 < 8) × (s.top.j1 < 8))
    × (Flanked s.fix × (Covered rows at s.top s.fix s.n.cost × (s.n.cost < 600000)))
