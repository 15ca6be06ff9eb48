-- theorems that rest on the table of the next states
pub mod Path
pub mod Rows
pub mod Walk
pub mod States
pub mod StateBytes
-- what the functions find, over plain numbers
pub mod Columns
pub mod Label
pub mod Ways
