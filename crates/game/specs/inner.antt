-- Definitions that contracts of private functions and proofs use; no promise of a call that the specification names rests on one of them.
-- Assumes nothing.
pub mod Limits
pub mod Valid
pub mod Game
pub mod Serving
pub mod Targets
pub mod Rounds
pub mod Needs
pub mod Wide
pub mod Solution
pub mod Bytes
pub mod Range
pub mod Checks
pub mod Accepted
pub mod RuleChecks
