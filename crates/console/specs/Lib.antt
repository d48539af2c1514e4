pub mod Asks
pub mod Promises
