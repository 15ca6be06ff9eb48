pub mod Counting
pub mod Filling
pub mod Words
pub mod Answering
