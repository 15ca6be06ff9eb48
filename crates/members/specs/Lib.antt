-- what is accepted, and the theorems
pub mod Accepted
pub mod Members
-- their proof
pub mod Laws
