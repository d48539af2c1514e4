pub mod Pairs
pub mod Described
