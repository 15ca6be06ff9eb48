pub mod Reading
pub mod Signs
pub mod Rows
pub mod Digits
pub mod Held
pub mod Copied
