-- a word's number by its p; the words of a page, odd or not; no second answer
pub mod Word
pub mod Page
pub mod Once
