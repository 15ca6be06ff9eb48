-- answers written out
pub mod Examples
