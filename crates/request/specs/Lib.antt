-- the words of a request line, and its rows of 24: what a reader has to believe
pub mod Words
pub mod Rows
