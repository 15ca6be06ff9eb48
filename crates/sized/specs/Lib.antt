-- what is printed: what a reader has to believe
pub mod Sized
-- theorems
pub mod Laws
