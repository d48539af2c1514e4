pub mod Version2
