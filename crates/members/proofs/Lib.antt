-- demand 2, for samples
pub mod Members
-- its proof, where it rests on the third section's bound: the point of a path, all parities
pub mod Point
pub mod Search
