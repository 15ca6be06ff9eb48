-- what a summary is, and what the calls answer: what a reader has to believe
pub mod Summary
pub mod Answer
-- the cells of a row of the code
pub mod Cells
-- the summary's rule: each outcome, what adding a word does, what the rows say
pub mod SummaryRule
-- its proof
pub mod Laws
