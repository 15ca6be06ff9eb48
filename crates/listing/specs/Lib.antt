-- definitions: what a reader has to believe
pub mod Listing
pub mod Lent
-- theorems
pub mod Laws
