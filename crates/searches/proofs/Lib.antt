pub mod SearchLaws
pub mod SkipLaws
