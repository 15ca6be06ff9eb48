-- the page, what its numbers mean, what the calls answer: what a reader has to believe
pub mod Page
pub mod Counts
pub mod Answer
pub mod Form
-- the reader as a definition, and the page rule: it accepts just the pages
pub mod Reader
pub mod PageRule
-- the count rule: halves go to the even number
pub mod CountRule
-- what `form` answers, and that it is the inverse of `parse`
pub mod FormRule
-- their proofs
pub mod Laws
