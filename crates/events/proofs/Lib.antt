pub mod EventLaws
pub mod Unique
