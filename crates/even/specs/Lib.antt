-- what the calls of the even profile answer: what a reader has to believe
pub mod Even
-- the profile's rule: words, points and pages
pub mod EvenRule
-- its proof
pub mod Laws
