-- laws that only the proofs of this crate cite
pub mod Answers
pub mod InPlace
