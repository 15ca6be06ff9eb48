pub mod Tables
pub mod Constants
