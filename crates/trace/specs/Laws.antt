pub mod Reader
pub mod Counts
pub mod Answer
-- no second answer fits
pub mod Once
-- an example, and the limits of a trace
pub mod Examples
