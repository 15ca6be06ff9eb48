-- the numbers that answer a bad call
pub mod Refusal
-- what all of them keep to
pub mod Laws
