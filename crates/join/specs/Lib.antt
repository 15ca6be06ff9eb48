-- theorems
pub mod Laws
-- what the private functions say to each other
pub mod Inner
