-- the answer to a request line, those of the even profile among them: what a reader has to believe
pub mod EvenAnswers
-- theorems
pub mod Laws
