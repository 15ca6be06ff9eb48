-- the text of a trace, and what the call answers: what a reader has to believe
pub mod Trace
pub mod Answer
-- the reader as a definition, and the trace rule: it accepts just the traces
pub mod Reader
pub mod TraceRule
-- what unpage prints is one
pub mod Unpage
-- their proofs
pub mod Laws
