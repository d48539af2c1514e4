pub mod ToldSet
pub mod Inner
