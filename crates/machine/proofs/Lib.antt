pub mod PositionLaws
pub mod DiscoveryLaws
pub mod Reachable
pub mod AutomatonLaws
pub mod OneAutomaton
pub mod ListingLaws
pub mod FillingLaws
pub mod Samples
