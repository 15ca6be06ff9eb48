pub mod Nibbles
pub mod Sums
