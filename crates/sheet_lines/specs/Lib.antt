pub mod Line
pub mod Places
pub mod Short
