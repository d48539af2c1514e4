pub mod Clamped
pub mod Unique
