-- each file over those before it: exact values and comparisons; the errors of rounding and of each operation; the margin; whole numbers; worked
-- examples
pub mod Exact
pub mod Compare
pub mod Error
pub mod Near
pub mod Arithmetic
pub mod Relative
pub mod Margin
pub mod Rounding
pub mod Arrays
pub mod Examples
