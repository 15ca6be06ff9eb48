pub mod Growth
pub mod Listed
pub mod Refusals
