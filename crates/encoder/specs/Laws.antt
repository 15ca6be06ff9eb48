pub mod Constants
pub mod InTurn
-- no second answer fits
pub mod Once
