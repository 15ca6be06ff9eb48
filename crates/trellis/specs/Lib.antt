-- the code, trio order, the cuts and the trellis: what a reader has to believe; the tables, which the theorems say are right
pub mod Code
pub mod Trio
pub mod Sharing
pub mod Trellis
pub mod Tables
-- theorems
pub mod Laws
