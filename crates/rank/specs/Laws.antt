pub mod RankOrder
pub mod Coord
pub mod Vector
pub mod Bound
pub mod Section
pub mod Lookup
pub mod Refusals
pub mod Once
