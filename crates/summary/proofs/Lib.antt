pub mod Blocks
pub mod Filling
mod Orders
