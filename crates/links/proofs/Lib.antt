pub mod LinkLaws
pub mod Unique
