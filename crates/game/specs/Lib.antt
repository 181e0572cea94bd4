pub mod Tables
pub mod Answer
pub mod Given
pub mod Rule
pub mod EndlessAnswer
pub mod Follower
pub mod Agreement
pub mod inner
