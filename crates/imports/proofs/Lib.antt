pub mod ImportLaws
pub mod Accepted
pub mod Unique
