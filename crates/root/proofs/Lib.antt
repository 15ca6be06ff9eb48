pub mod Bits
pub mod Loops
pub mod Whole
