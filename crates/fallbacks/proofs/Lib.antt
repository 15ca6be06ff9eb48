-- theorems that rest on the order of points
pub mod Order
pub mod Entries
pub mod Fallbacks
