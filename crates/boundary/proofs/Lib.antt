pub mod Crossing
pub mod Boundary
pub mod CLaws
pub mod Unique
