-- the search of one pattern over flat rows; that it is the definition of crate search
pub mod Laws
-- what the private functions say to each other
pub mod Inner
