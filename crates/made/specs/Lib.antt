-- what is printed: what a reader has to believe
pub mod Made
-- its rule
pub mod MadeRule
