pub mod Steps
pub mod ElectionLaws
pub mod Unique
pub mod SkipLaws
