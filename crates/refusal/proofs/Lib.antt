-- no two reasons are told alike, and so no second answer fits a record
pub mod Apart
pub mod Once
