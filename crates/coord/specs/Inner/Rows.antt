-- A section's 128 rounding records, and the same as flat rows. Record i is at shrink i / 16, coordinate i / 2 % 8, pattern bit i % 2; slot f of
-- record i stands at 5 * i + f in the rows of distances, weights and ranks. Definitions only.
use Rattle.std.specs.Prelude.{Bool, List, ℕ, ◌+◌, ◌*◌, ◌/◌, ◌%◌, pos, get_or, Float}
use Rattle.std.specs.Int.Signed.{lt_z}
use Rattle.std.specs.Float.{nan}
use Rattle.laws.specs.Words.{tab}
use Rattle.laws.specs.Words.{mod_z}
use Rattle.search.specs.declared.Coord.{Coord}
use Rattle.search.specs.Record.{coord_of, shrinks, coord_at}
use Rattle.coord.specs.declared.Rows.{Rows}

-- record i of the targets ts at parity p
unfoldable pub coord_in : List Float → ℕ → ℕ → Coord
coord_in ts p i = coord_of (get_or ts (i / 2 % 8) nan) (get_or shrinks (i / 16) nan) (p + 2 * (i % 2))

unfoldable pub table_of : List Float → ℕ → List Coord
table_of ts p = tab (coord_in ts p) 128

-- ---- the rows of a list of 128 records
unfoldable pub regrets_of : List Coord → List Float
regrets_of e = tab (λ (i : ℕ). (coord_at e i).regret) 128

unfoldable pub dists_of : List Coord → List Float
dists_of e = tab (λ (i : ℕ). get_or (coord_at e (i / 5)).d (i % 5) nan) 640

unfoldable pub weights_of : List Coord → List ℕ
weights_of e = tab (λ (i : ℕ). get_or (coord_at e (i / 5)).w (i % 5) 0) 640

unfoldable pub ranks_of : List Coord → List ℕ
ranks_of e = tab (λ (i : ℕ). get_or (coord_at e (i / 5)).rank (i % 5) 0) 640

-- the parity of each rounding
unfoldable pub odds_of : List Coord → List ℕ
odds_of e = tab (λ (i : ℕ). mod_z (coord_at e i).k0 2) 128

-- whether the target lies above the rounding
unfoldable pub ups_of : List Coord → List Bool
ups_of e = tab (λ (i : ℕ). lt_z (pos 0) (coord_at e i).dir) 128

-- the six together
unfoldable pub rows_of : List Coord → Rows
rows_of e = record { regret = regrets_of e; dist = dists_of e; weight = weights_of e; rank = ranks_of e; odd = odds_of e; up = ups_of e }
