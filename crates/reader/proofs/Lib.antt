-- What the proofs of several functions use.
mod MarkLaws
mod TextLaws
pub mod NodeLaws
mod SizeLaws
mod ScanLaws
mod PlaceLaws
mod FollowLaws
mod InfixLaws
mod PrefixLaws
mod ReadingLaws
pub mod Unambiguous
mod Samples
pub mod BoolLaws
pub mod RefusalLaws
pub mod StaticLaws
