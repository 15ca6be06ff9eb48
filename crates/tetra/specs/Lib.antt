-- the lattice, the point of a word, the answer of `encode`, why a point has no word: what a reader has to believe
pub mod Lattice
pub mod Tetra
pub mod Encode
pub mod Why
-- a block of a longer list
pub mod Block
-- demand 2; the points to hit exactly
pub mod Demand2
pub mod Points
-- their proof
pub mod Laws
