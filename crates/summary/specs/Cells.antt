-- The cells of a row, in the order of the summary. Definitions only.
use Rattle.std.specs.Prelude.{List, [], ◌∷◌, ℤ}
use Rattle.summary.specs.declared.row.Row.{Row}

abbrev pub cells_of : Row → List ℤ
cells_of r = r.sum ∷ r.largest ∷ r.smallest ∷ r.odd ∷ []
