-- the statement (the theorem: proofs/Nearest); that the premises can be met, and what demand 3 rejects
pub mod Nearest
pub mod OnPoint
-- their proof
pub mod Laws
