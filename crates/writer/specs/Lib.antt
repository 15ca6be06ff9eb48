-- what the writer answers: what a reader has to believe
pub mod Writer
-- the writer's rule: the scale is exact, each outcome, and the reader accepts what is written
pub mod WriterRule
-- its proof
pub mod Laws
