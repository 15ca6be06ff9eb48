-- the statement and the theorem
pub mod Region
pub mod Fallbacks
-- its proof
pub mod Laws
