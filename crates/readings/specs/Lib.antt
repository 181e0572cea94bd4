pub mod Lists
pub mod Row
pub mod Rows
pub mod Example
