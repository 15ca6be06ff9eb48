-- the scale; the lowest block that passes a test; a block and its word; the answer and its tests; calls worked out; no second answer
pub mod Scale
pub mod First
pub mod Blocks
pub mod Answers
pub mod Examples
pub mod Once
