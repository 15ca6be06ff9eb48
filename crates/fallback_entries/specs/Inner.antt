-- what the functions of this crate say to each other
pub mod Flat
