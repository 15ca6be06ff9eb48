-- tests, tables and lists; order; whole numbers
pub mod Tests
pub mod Tables
pub mod Trees
pub mod Lists
pub mod Made
pub mod Filled
pub mod Order
pub mod Whole
