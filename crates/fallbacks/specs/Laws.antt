-- the order of points as one number; the least number of a region, coordinate by coordinate
pub mod Order
pub mod Lower
-- what a member of a region is; the entries of the table
pub mod Member
pub mod Entries
