pub mod Gives
pub mod Inner
