-- definitions: what a reader has to believe
pub mod Samples
pub mod Score
pub mod Scale
pub mod Choice
-- theorems, and worked examples
pub mod Laws
