pub mod Events
pub mod Inner
pub mod Kinds
