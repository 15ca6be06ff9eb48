-- the forms that the proof works with
pub mod Forms
-- sums and signed numbers; packed rows; the shape of a candidate
pub mod Sums
pub mod Ints
pub mod Keys
pub mod Shape
-- doubles: one coordinate, the base of a pattern, values and their sums
pub mod Coordinate
pub mod Base
pub mod Under
pub mod Operations
-- the lattice by sections; the join, the entries, one parity, all parities
pub mod Lattice
pub mod Join
pub mod Entries
pub mod Pass
pub mod Winner
pub mod Parities
-- the candidates, the section search
pub mod Rule
pub mod Candidate
pub mod Steps
pub mod Pairs
pub mod Bases
pub mod Solve
-- the premises of all of it put together, by sections; the lattice in trio order
pub mod Premises
pub mod Reach
pub mod Sections
-- that the forms are what document 01 and the constant tables have
pub mod Packed
pub mod TableFacts
pub mod Link
-- what is searched; a point as its own target
pub mod Searched
pub mod OnPoint
