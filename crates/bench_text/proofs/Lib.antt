pub mod StreamLaws
pub mod RunLaws
pub mod Whole
pub mod Unique
pub mod Worked
