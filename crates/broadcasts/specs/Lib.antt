pub mod Broadcasts
pub mod Inner
