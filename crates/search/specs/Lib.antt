-- docs/ALGORITHM.md tells the search in words
-- the search of encoder.rs, from one coordinate up to a block: what a reader has to believe
pub mod Record
pub mod Bound
pub mod Base
pub mod Solve
pub mod Tables
pub mod Entries
pub mod Join
pub mod Parity
pub mod Block
-- theorems
pub mod Laws
