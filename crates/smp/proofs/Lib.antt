pub mod SmpLaws
pub mod Unique
