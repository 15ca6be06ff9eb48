-- the root, by squares: what a reader has to believe; the theorem
pub mod Root
pub mod Nearest
-- the theorem's steps, and worked examples
pub mod Laws
-- what the private functions say to each other
pub mod Inner
