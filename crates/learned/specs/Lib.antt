pub mod Pairs
pub mod InC
