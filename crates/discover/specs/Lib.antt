pub mod Discover
pub mod Inner
