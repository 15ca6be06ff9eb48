-- the listing sorted, split and cut, and that it is the table
pub mod Sorted
-- that the sorted listing is the whole listing, in order
pub mod Laws
