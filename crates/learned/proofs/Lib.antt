pub mod Worked
pub mod InC
