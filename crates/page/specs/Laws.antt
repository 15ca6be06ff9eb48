pub mod Nearest
pub mod Count
pub mod Reader
pub mod Lines
pub mod Answer
pub mod Form
-- no second answer fits
pub mod Once
-- document 01's example, and the limits of a page
pub mod Examples
