-- The table's rows as rank vectors, and what the lookups answer. Assumes nothing.
use Rattle.std.specs.Prelude.{◌≡◌, cond, List, [], ◌∷◌, ℕ, zero, suc, ◌+◌, ◌*◌, ◌-◌, ◌/◌, ◌%◌, ◌<◌, ltb, get_or, Option, Some, None}
use Rattle.laws.specs.Words.{seek}
use Rattle.rank.specs.Vector.{ranks_below, pack, unpack}
use Rattle.rows.specs.Rows.{rows}
use Rattle.rows.specs.declared.Seat.{Seat}

-- the ranks of row i, coordinate 0 first
unfoldable pub row_ranks : ℕ → List ℕ
row_ranks i = unpack 8 (get_or rows i 0)

-- v is a row
abbrev pub IsRow : List ℕ → Type 0
IsRow v = (p : ℕ) × (p < 4096) × (row_ranks p ≡ v)

-- the largest rank that a row holds
abbrev pub max_rank : ℕ
max_rank = 4

-- ---- where a vector stands in the table
-- the number of the row whose ranks are packed in w, 0 to 4095, or 4096 where no row is w
unfoldable pub find_of : ℕ → ℕ
find_of w = seek w rows

-- as an answer: the number, or none
abbrev pub number_of : ℕ → Option ℕ
number_of p = cond (ltb p 4096) (Some p) None

-- and row x, where there is one
abbrev pub row_of : ℕ → Option ℕ
row_of x = cond (ltb x 4096) (Some (get_or rows x 0)) None

-- the same for a vector of any ranks. Packing has room for four bits a rank, so a rank above the largest decides first.
unfoldable pub position_of : List ℕ → ℕ
position_of v = cond (ranks_below (max_rank + 1) v) (find_of (pack v)) 4096

-- ---- class and index
-- a vector that stands at class c and index i
abbrev pub At : ℕ → ℕ → Option Seat
At c i = Some (record { class = c; index = i })

-- row p is row p % 2048 of class p / 2048; there is no row from 4096 on
abbrev pub seat_of : ℕ → Seat
seat_of p = record { class = p / 2048; index = p % 2048 }

unfoldable pub seat_at : ℕ → Option Seat
seat_at p = cond (ltb p 4096) (Some (seat_of p)) None

-- the class of the row that v is, and its index there
unfoldable pub class_index_of : List ℕ → Option Seat
class_index_of v = seat_at (position_of v)

-- ---- the middle section: 1,240 rows of class 0, then 808 of class 1, under one index
abbrev pub middle_rows : ℕ → ℕ
middle_rows zero = 1240
middle_rows (suc c) = 808

-- the class and the row of the middle's index i
unfoldable pub middle_class : ℕ → ℕ
middle_class i = cond (ltb i 1240) 0 1

unfoldable pub middle_row : ℕ → ℕ
middle_row i = cond (ltb i 1240) i (2048 + (i - 1240))

-- v is one of the middle's rows
abbrev pub IsMiddleRow : List ℕ → Type 0
IsMiddleRow v = (i : ℕ) × (i < 2048) × (row_ranks (middle_row i) ≡ v)

-- from the index within the class to the middle's
unfoldable pub middle_seat : Option Seat → Option Seat
middle_seat (Some s) = cond (ltb s.index (middle_rows s.class)) (At s.class (s.index + 1240 * s.class)) None
middle_seat None = None

-- the class of the middle's row that v is, and the middle's index of it
unfoldable pub mixed_index_of : List ℕ → Option Seat
mixed_index_of v = middle_seat (class_index_of v)

-- ---- document 01's number and values of each answer. That a vector is no row is an answer and no refusal.
abbrev pub seated_number : Option Seat → ℕ
seated_number (Some s) = 0
seated_number None = 0

-- the class and the index, or no value
abbrev pub values_of : Option Seat → List ℕ
values_of (Some s) = s.class ∷ s.index ∷ []
values_of None = []
