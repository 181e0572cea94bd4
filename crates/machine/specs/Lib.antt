pub mod Letters
pub mod Machine
pub mod Run
pub mod Discovery
pub mod Automaton
pub mod inner
