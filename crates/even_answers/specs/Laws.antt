-- lines that do not begin with an e; answers written out
pub mod Others
pub mod Examples
