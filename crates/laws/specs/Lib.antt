-- the words that definitions use: what a reader has to believe
pub mod Words
-- laws that more than one crate cites
pub mod Laws
