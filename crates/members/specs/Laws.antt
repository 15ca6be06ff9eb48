-- doubles of bounded size; candidates and what the rule meets
pub mod Sizes
pub mod Candidates
-- the shrink 0, and the middle
pub mod Zero
pub mod Middle
-- the entries, the paths of a parity
pub mod Entries
pub mod Paths
-- ranks as lists, the point
pub mod Ranks
pub mod Point
-- all parities
pub mod Search
