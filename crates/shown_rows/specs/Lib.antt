pub mod ShownRows
pub mod Inner
