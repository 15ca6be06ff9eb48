pub mod Text
pub mod Lines
pub mod Rows
pub mod Placed
pub mod Printed
