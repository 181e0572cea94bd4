-- Definitions that contracts of private functions and proofs use; no promise of a call that the specification names rests on one of them.
-- Assumes nothing.
pub mod Writing
pub mod Parsing
pub mod Rendering
pub mod Lines
