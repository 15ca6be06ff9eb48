-- what the calls answer, and what they leave in memory that is lent
pub mod Calls
pub mod EvenCalls
pub mod Environment
-- theorems
pub mod Laws
