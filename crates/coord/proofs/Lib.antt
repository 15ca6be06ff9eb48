pub mod Differences
pub mod Numbers
pub mod Marks
pub mod Filled
