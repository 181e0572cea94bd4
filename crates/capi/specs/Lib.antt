pub mod Mode
pub mod Verdict
pub mod Step
pub mod Trial
pub mod Agreement
