pub mod Causes
pub mod Import
pub mod Steps
