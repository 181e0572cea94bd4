pub mod Decimal
pub mod Input
pub mod Listing
pub mod Promise
pub mod Agreement
pub mod inner
