-- texts, what is read at a text's start, and what is put into a buffer: what a reader has to believe
pub mod Text
pub mod Lines
pub mod Rows
pub mod Placed
pub mod Doubles
-- each reader accepts just the lines of its kind; lengths; pieces in a row
pub mod Laws
-- a text in an array of its own
pub mod Printed
pub mod Held
