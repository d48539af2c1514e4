pub mod Trailers
pub mod Unique
