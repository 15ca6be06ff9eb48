-- A closed bound on packed rows: `Closed::holds` and `lex` of encoder.rs. Definitions only.
-- The idea: the rows are the first vectors of an order, so whether a vector has a row is one comparison with
-- the last of them. The order begins at coordinate 0, and a packed row has that one lowest, so ranks are read
-- the other way round.
use Rattle.std.specs.Prelude.{Bool, ◌&&◌, ◌||◌, List, [], ◌∷◌, ℕ, ◌+◌, ◌*◌, ltb, leb, eqb}
use Rattle.rank.specs.Vector.{unpack}
use Rattle.search.specs.declared.Closed.{Closed}

-- ranks read as one number, the first most significant, from a on
unfoldable pub lex_num : ℕ → List ℕ → ℕ
lex_num a [] = a
lex_num a (r ∷ v) = lex_num (a * 16 + r) v

-- the ranks of a packed row as one number, coordinate 0 most significant: the order of such numbers is that of the rank vectors
unfoldable pub lex_of : ℕ → ℕ
lex_of key = lex_num 0 (unpack 8 key)

abbrev pub holds : Closed → ℕ → ℕ → Bool
holds b cost key = ltb cost b.cost || (eqb cost b.cost && leb (lex_of key) b.cut)
