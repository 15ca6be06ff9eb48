-- document 01's example, an empty page and no page
pub mod Examples
