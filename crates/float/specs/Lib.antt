-- definitions: what a reader has to believe
pub mod Value
pub mod Calls
pub mod Distance
-- theorems, and worked examples
pub mod Laws
