-- each file over those before it: the refusals, and what they keep finite; the largest magnitude, the norm and the scale; quotients below 16; the
-- choice that samples give, and any other; finite scores; worked examples; no second answer
pub mod Sample
pub mod Finite
pub mod Largest
pub mod Norm
pub mod Scale
pub mod Quotient
pub mod Choice
pub mod Chosen
pub mod Score
pub mod Examples
pub mod Once
