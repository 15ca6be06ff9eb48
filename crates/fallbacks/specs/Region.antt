-- The fallback of an end region, as `Encoder::with_rule` of encoder.rs has it: over the two bytes of the state and the 2,048 rows of the
-- class, the point of least (norm, point), a point compared coordinate by coordinate, coordinate 0 first. Definitions only.
use Rattle.std.specs.Prelude.{◌≡◌, ◌⊎◌, List, [], ◌∷◌, ℕ, ◌+◌, ◌*◌, ◌<◌, get_or, ℤ, pos, ◌<ℤ◌}
use Rattle.laws.specs.Words.{tab, norm}
use Rattle.rows.specs.Rows.{rows}
use Rattle.search.specs.Tables.{tables, end_byte, fallback_at}
use Rattle.search.specs.Entries.{section_at}

-- ---- the order of points
-- y is not greater than z: the first coordinate in which they differ is smaller in y
unfoldable pub NotGreater : List ℤ → List ℤ → Type 0
NotGreater [] z = Unit
NotGreater (v ∷ y) [] = ⊥
NotGreater (v ∷ y) (w ∷ z) = (v <ℤ w) ⊎ ((v ≡ w) × NotGreater y z)

-- (norm, y) is not greater than (norm, z)
abbrev pub NotAfter : List ℤ → List ℤ → Type 0
NotAfter y z = (norm y < norm z) ⊎ ((norm y ≡ norm z) × NotGreater y z)

-- ---- the end region of class r at the state st: kind 0 is the first end, kind 1 the last
-- byte c and packed row key are a byte of the state and a row of the class
pub record InRegion (kind r st c key : ℕ) : Type 0 where
  pub b : ℕ
  pub b_lt : b < 2
  pub byte : c ≡ end_byte tables kind st b
  pub i : ℕ
  pub i_lt : i < 2048
  pub row : key ≡ get_or rows (2048 * r + i) 0

-- the point of parity p that they name, `section_point` of encoder.rs
abbrev pub point : ℕ → ℕ → ℕ → List ℤ
point p c key = tab (section_at p c key) 8

-- they name the least point of the region
pub record LeastOf (kind p r st c key : ℕ) : Type 0 where
  pub member : InRegion kind r st c key
  pub least : (d k : ℕ) → InRegion kind r st d k → NotAfter (point p c key) (point p d k)

-- ---- the table's entry for a region, a byte and a packed row
abbrev pub byte_of : ℕ → ℕ → ℕ → ℕ → ℕ
byte_of kind p r st = get_or tables.fb_byte (fallback_at kind p r st) 0

abbrev pub key_of : ℕ → ℕ → ℕ → ℕ → ℕ
key_of kind p r st = get_or tables.fb_key (fallback_at kind p r st) 0
