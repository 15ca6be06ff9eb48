-- the fallbacks over flat lists; that they are those of crate search
pub mod Laws
-- what the functions of this crate say to each other
pub mod Inner
