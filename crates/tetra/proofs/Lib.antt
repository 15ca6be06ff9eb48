pub mod Decoding
pub mod Rows
pub mod Encoding
