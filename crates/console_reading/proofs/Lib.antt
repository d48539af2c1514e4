pub mod ReadLaws
pub mod Unique
