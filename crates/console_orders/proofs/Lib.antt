pub mod BuildLaws
pub mod Unique
