pub mod Cases
pub mod Promises
