pub mod Orders
pub mod Point
pub mod Word
pub mod Reason
pub mod Answer
-- what holds the fields' places, the code, trio order and the rows fast
pub mod Pinned
