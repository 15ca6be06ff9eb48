-- definitions: what a reader has to believe
pub mod Coord
pub mod Section
pub mod Vector
pub mod Answers
-- theorems
pub mod Laws
