-- what is printed: what a reader has to believe
pub mod Shown
-- theorems
pub mod Laws
