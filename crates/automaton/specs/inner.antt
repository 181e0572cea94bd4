-- Definitions that contracts of private functions and proofs use; no promise of a call that the specification names rests on one of them.
-- Assumes nothing.
pub mod Sizes
pub mod Representation
pub mod Nodes
pub mod Evaluation
pub mod Coordinates
pub mod Fold
pub mod Table
pub mod States
pub mod Exploration
pub mod Opening
