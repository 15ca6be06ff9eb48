-- what the calls answer; their numbers
pub mod Encode
pub mod Numbers
-- theorems that hold their constants fast
pub mod Laws
