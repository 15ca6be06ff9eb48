-- the answer to a request line: what a reader has to believe
pub mod Answers
-- theorems
pub mod Laws
