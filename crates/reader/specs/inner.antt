-- Definitions that contracts of private functions and proofs use; no promise of a call that the specification names rests on one of them.
-- Assumes nothing.
pub mod Nodes
pub mod Scan
pub mod Counts
pub mod Blanks
pub mod Steps
