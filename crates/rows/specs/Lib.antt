-- the table, what the lookups answer, and what that means
pub mod Rows
pub mod Table
pub mod Answers
-- theorems
pub mod Laws
