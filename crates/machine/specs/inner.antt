-- Definitions that proofs and contracts of private functions use; no promise of a call that the specification names rests on one of them.
-- Assumes nothing.
pub mod Exploration
