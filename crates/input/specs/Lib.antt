-- how many bytes were read
pub mod Input
