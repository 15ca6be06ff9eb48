-- document 01's example
pub mod Examples
