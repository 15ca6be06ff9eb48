-- what number 0 says of a call; what demand 3 returns; a point as its own samples
pub mod Number
pub mod Returned
pub mod OnPoint
