-- laws that only the proofs of this crate cite
pub mod Laws
pub mod Passed
pub mod Sections
