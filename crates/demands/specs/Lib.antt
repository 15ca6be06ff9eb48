-- what is promised of a code (demand 2 for samples: proofs/Codes); the two scales, demand 3: over the public calls
pub mod Promised
pub mod Scales
pub mod Demand3
-- the full coder and the even profile
pub mod Agrees
-- their proof
pub mod Laws
